use Rattle.std.proofs.Common.{◌≡◌, ℕ, ◌+◌, ◌*◌, ◌/◌, ◌%◌, arith, subst}
use Rattle.std.specs.Prelude.{slice_range}
use Rattle.vb_bits.specs.Bits.{count}
use Rattle.vb_view.specs.View.{bits_of}
use Rattle.vb_aggregate.proofs.WordsLemmas.{TakesFront, front_all, front_more, front_pass}
use Rattle.vb_aggregate.proofs.WordsLemmas.{empty_word, empty_join}
use Rattle.vb_aggregate.proofs.walk.fold_kept.Goals as goal

pub loop-t-preserved-then-keep-eq0 : goal.loop-t-preserved-then-keep-eq0
loop-t-preserved-then-keep-eq0 g c =
    let mask = bits_of c.args.mask in
    let t : ℕ = c.loop-t.t in
    let next : ℕ = c.next_nonempty-t.result in
    let passed = c.next_nonempty-t.ensures in
    let begin : 64 * (t + 1) ≡ 64 * t + 64 = omega arith in
    let word =
    empty_word mask (64 * t) 64 c.view_word-keep.result c.if-keep-eq0.true
    c.view_word-keep.ensures.digits in
    let words =
    subst (λ k. count (slice_range mask k (64 * next)) ≡ 0) begin passed.empty in
    record {
      inside = passed.within;
      front = front_pass g.W.WordFold.shows c.args.start c.loop-t.state mask c.args.values.now
          c.requires.same_len (64 * t) (64 * next) (omega (arith, passed.after))
          (omega (arith, passed.within, c.len-whole.ensures))
          (empty_join mask (64 * t) (64 * t + 64) (64 * next) (omega arith)
          (omega (arith, passed.after)) word words) c.loop-t.invariant.front;
    }

pub loop-t-preserved : goal.loop-t-preserved
loop-t-preserved g c =
    let shows = g.W.WordFold.shows in
    let mask = bits_of c.args.mask in
    let values = c.args.values.now in
    let t : ℕ = c.loop-t.t in
    let next = c.add_word-state.result in
    let end : 64 * t + 64 ≡ 64 * (t + 1) = omega arith in
    record {
      inside = omega (arith, c.loop-t-test.true);
      front = subst (TakesFront shows c.args.start next mask values) end
          (front_more shows c.args.start c.loop-t.state mask values c.requires.same_len (64 * t) 64
          c.view_word-keep.result next (omega (arith, c.loop-t-test.true, c.len-whole.ensures))
          c.view_word-keep.ensures.digits c.add_word-state.ensures c.loop-t.invariant.front);
    }

pub returns : goal.returns
returns g c =
    let shows = g.W.WordFold.shows in
    let mask = bits_of c.args.mask in
    let values = c.args.values.now in
    let whole = c.len-whole.result / 64 in
    let n = c.len-n.result % 64 in
    let state = c.loop-t.state in
    let next = c.add_word.result in
    let same = c.requires.same_len in
    let end : c.loop-t.t ≡ whole =
    omega (arith, c.loop-t-test.false, c.loop-t.invariant.inside) in
    front_all shows c.args.start next mask values same (64 * whole + n)
    (omega (arith, c.len-whole.ensures, c.len-n.ensures))
    (front_more shows c.args.start state mask values same (64 * whole) n
    c.view_word-keep-2.result next (omega (arith, c.len-whole.ensures, c.len-n.ensures))
    c.view_word-keep-2.ensures.digits c.add_word.ensures
    (subst (λ k. TakesFront shows c.args.start state mask values (64 * k)) end
    c.loop-t.invariant.front))
