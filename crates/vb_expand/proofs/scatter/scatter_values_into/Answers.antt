use Rattle.std.proofs.Common.{◌≡◌, ℕ, ◌+◌, ◌-◌, ◌*◌, ◌/◌, ◌%◌, take, refl, sym, ap, subst, ◌∙◌}
use Rattle.std.proofs.Common.{arith}
use borrow.Rule.Slice.PartMut.{put_mid}
use Rattle.vb_bits.specs.Bits.{complement}
use Rattle.vb_bits.specs.Kept.{kept_by}
use Rattle.vb_view.specs.View.{bits_of}
use Rattle.vb_expand.proofs.ScatterLemmas.{FrontScattered, word_enough, word_fits, front_word}
use Rattle.vb_expand.proofs.ScatterLemmas.{last_enough, last_fits, front_last}
use Rattle.vb_expand.proofs.ScatterLemmas.{kept_by-scattered_by, others-scattered_by}
use Rattle.vb_expand.proofs.scatter.scatter_values_into.Goals as goal

pub loop-t-init : goal.loop-t-init
loop-t-init g c = record { number = refl; items = refl }

pub scatter_word-taken-requires-clause-enough : goal.scatter_word-taken-requires-clause-enough
scatter_word-taken-requires-clause-enough g c =
    word_enough c.loop-t.invariant c.requires.same_len c.requires.enough 64
    (omega (arith, c.len-whole.ensures)) c.view_word-places.result c.view_word-places.ensures.clear
    c.view_word-places.ensures.digits

pub overflow_add-taken : goal.overflow_add-taken
overflow_add-taken g c =
    omega (
      arith,
      word_fits c.loop-t.invariant c.requires.same_len c.requires.enough 64
          (omega (arith, c.len-whole.ensures)) c.view_word-places.result
          c.view_word-places.ensures.clear c.view_word-places.ensures.digits,
      c.scatter_word-taken.ensures.count,
      c.len-whole.ensures,
      c.len-whole.type_inv,
    )

pub loop-t-preserved : goal.loop-t-preserved
loop-t-preserved g c =
    let mask = bits_of c.args.mask in
    let values = c.args.values.now in
    let t : ℕ = c.loop-t.t in
    let next : 64 * t + 64 ≡ 64 * (t + 1) = omega arith in
    let new = put_mid (64 * t) (64 * t + 64 - 64 * t) c.loop-t.out c.scatter_word-taken.new.out in
    let taken : ℕ = c.loop-t.taken + c.scatter_word-taken.result in
    subst (λ k. FrontScattered mask values c.args.out.now new k taken) next
    (front_word c.loop-t.invariant c.requires.same_len c.requires.enough 64
    (omega (arith, c.len-whole.ensures)) c.view_word-places.result
    c.view_word-places.ensures.clear c.view_word-places.ensures.digits c.loop-t.auto.out
    c.scatter_word-taken.new.out c.scatter_word-taken.result
    c.scatter_word-taken.ensures.count c.scatter_word-taken.ensures.scattered)

pub scatter_word-requires-clause-enough : goal.scatter_word-requires-clause-enough
scatter_word-requires-clause-enough g c =
    last_enough c.loop-t.invariant (c.len-whole.result / 64) (omega arith) c.requires.same_len
    c.requires.enough (c.len-n.result % 64) (omega (arith, c.len-n.ensures, c.len-whole.ensures))
    c.view_word-places-2.result c.view_word-places-2.ensures.clear
    c.view_word-places-2.ensures.digits

pub overflow_add-result : goal.overflow_add-result
overflow_add-result g c =
    omega (
      arith,
      last_fits c.loop-t.invariant (c.len-whole.result / 64) (omega arith) c.requires.same_len
          c.requires.enough (c.len-n.result % 64)
          (omega (arith, c.len-n.ensures, c.len-whole.ensures)) c.view_word-places-2.result
          c.view_word-places-2.ensures.clear c.view_word-places-2.ensures.digits,
      c.scatter_word.ensures.count,
      c.len-n.ensures,
      c.len-n.type_inv,
    )

pub returns-clause-count : goal.returns-clause-count
returns-clause-count g c =
    (front_last c.loop-t.invariant (c.len-whole.result / 64) (omega arith) c.requires.same_len
    c.requires.enough (c.len-n.result % 64) (omega (arith, c.len-n.ensures, c.len-whole.ensures))
    c.view_word-places-2.result c.view_word-places-2.ensures.clear
    c.view_word-places-2.ensures.digits c.loop-t.auto.out c.scatter_word.new.out
    c.scatter_word.result c.scatter_word.ensures.count c.scatter_word.ensures.scattered).0

pub returns-clause-scattered : goal.returns-clause-scattered
returns-clause-scattered g c =
    (front_last c.loop-t.invariant (c.len-whole.result / 64) (omega arith) c.requires.same_len
    c.requires.enough (c.len-n.result % 64) (omega (arith, c.len-n.ensures, c.len-whole.ensures))
    c.view_word-places-2.result c.view_word-places-2.ensures.clear
    c.view_word-places-2.ensures.digits c.loop-t.auto.out c.scatter_word.new.out
    c.scatter_word.result c.scatter_word.ensures.count c.scatter_word.ensures.scattered).1

pub returns-clause-kept : goal.returns-clause-kept
returns-clause-kept g c =
    let mask = bits_of c.args.mask in
    ap (kept_by mask) (returns-clause-scattered g c)
    ∙ kept_by-scattered_by mask c.args.values.now c.args.out.now c.requires.same_len
    c.requires.enough
    ∙ ap (λ k. take k c.args.values.now) (sym (returns-clause-count g c))

pub returns-clause-others : goal.returns-clause-others
returns-clause-others g c =
    let mask = bits_of c.args.mask in
    ap (kept_by (complement mask)) (returns-clause-scattered g c)
    ∙ others-scattered_by mask c.args.values.now c.args.out.now
