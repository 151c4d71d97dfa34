use Rattle.std.proofs.Common.{rules, ◌≡◌, ℕ, ◌+◌, ◌-◌, ◌<◌, ◌≤◌, ◌∷◌, ◌++◌, [], length, map}
use Rattle.std.proofs.Common.{get_or, take, drop, refl, append_assoc, sym, ap, subst}
use Rattle.std.proofs.Common.{◌∙◌, arith}
use Rattle.std.specs.Int.{trailing_zeros, w64}
use Rattle.std.specs.Int.Bits.{bit_and}
use Rattle.std.specs.Prelude.{count_ones, slice_range}
use Rattle.std.proofs.lemmas.List.{take_more_set, drop-set-lt, drop-drop, get_or_default}
use Rattle.std.proofs.lemmas.List.{append-nil, length-take, length-drop}
use Rattle.std.proofs.lemmas.Nat.{and_le_l}
use Rattle.vb_bits.proofs.BitsLemmas.{count-le}
use Rattle.vb_bits.proofs.DigitsLemmas.{length-digits, count-digits_below}
use Rattle.vb_bits.specs.Digits.{digits}
use Rattle.vb_bits.specs.Kept.{kept_by}
use Rattle.vb_filter.specs.Gathered.{PutsAt}
use Rattle.vb_walk.proofs.OnesLemmas.{lowest_below}
use Rattle.vb_walk.proofs.WordOnes.{ones, ones_none, ones_first, length-ones}
use Rattle.vb_filter.proofs.RetainLemmas.{unread_value, next_above, puts_block, puts_same}
use Rattle.vb_filter.proofs.RetainLemmas.{puts_ones_of}
use Rattle.vb_filter.proofs.retain.move_word.Goals as goal

pub returns-then-len-start-clause-kept : goal.returns-then-len-start-clause-kept
returns-then-len-start-clause-kept g c =
    subst (λ l. PutsAt c.args.len (kept_by (digits c.args.keep 0 c.args.n)
    (slice_range c.args.values.now c.args.start (c.args.start + c.args.n))) c.args.values.now l)
    (sym c.copy_within.ensures.after)
    (puts_block c.args.values.now c.args.len c.args.start c.args.n c.args.keep c.requires.before
    c.requires.inside c.requires.clear (omega (arith, c.if-count-n.true)))

pub returns-else-len-start-clause-kept : goal.returns-else-len-start-clause-kept
returns-else-len-start-clause-kept g c =
    puts_same c.args.values.now c.args.len c.args.start c.args.n c.args.keep
    (omega (arith, c.if-len-start.false, c.requires.before)) c.requires.inside c.requires.clear
    (omega (arith, c.if-count-n.true))

pub loop-left-init : goal.loop-left-init
loop-left-init g c = record {
  front = λ d. refl;
  behind = refl;
  number = refl;
  clear = c.requires.clear;
  later = λ some. omega arith;
}

pub loop-left-preserved : goal.loop-left-preserved
loop-left-preserved g c =
    let start : ℕ = c.args.start in
    let n : ℕ = c.args.n in
    let left : ℕ = c.loop-left.left in
    let end : ℕ = c.loop-left.end in
    let values = c.loop-left.values in
    let items = slice_range c.args.values.now start (start + n) in
    let inv = c.loop-left.invariant in
    let place : ℕ = trailing_zeros w64 left in
    let some : 0 < left = omega (arith, c.loop-left-test.true) in
    let first = ones_first n left some inv.clear c.requires.few in
    let inside = lowest_below n left some inv.clear c.requires.few in
    let later : end ≤ start + place = omega (arith, inv.later some, c.requires.before) in
    let room : start + place < length values = omega (
      arith,
      inside,
      c.requires.inside,
      c.loop-left.auto.values,
    ) in
    record {
      front = λ d.
          let value = λ (i : ℕ). get_or items i d in
          let rest = map value (ones n (bit_and left (left - 1))) in
          let read = c.index-values-start.is
          ∙ get_or_default values (start + place) _ d room
          ∙ unread_value c.args.values.now values end start n place d inv.behind later inside
          in
          ap (λ l. l ++ rest) (take_more_set values end _ (omega (arith, later, room))
          ∙ ap (λ x. take end values ++ (x ∷ [])) read)
          ∙ append_assoc (take end values) (value place ∷ []) rest
          ∙ ap (λ l. take end values ++ map value l) (sym first) ∙ inv.front d;
      behind = drop-set-lt (end + 1) values end _ (omega arith) ∙ sym (drop-drop 1 end values)
          ∙ ap (drop 1) inv.behind ∙ drop-drop 1 end c.args.values.now;
      number = omega (arith, ap length first, inv.number);
      clear = omega (arith, and_le_l left (left - 1), inv.clear);
      later = λ more.
          omega (arith, inv.later some, next_above n left some inv.clear c.requires.few more);
    }

pub returns-clause-kept : goal.returns-clause-kept
returns-clause-kept g c =
    let start : ℕ = c.args.start in
    let n : ℕ = c.args.n in
    let keep : ℕ = c.args.keep in
    let end : ℕ = c.loop-left.end in
    let values = c.loop-left.values in
    let items = slice_range c.args.values.now start (start + n) in
    let long : length items ≡ n =
    simp (length-take, length-drop) (omega (arith, c.requires.inside)) in
    let inv = c.loop-left.invariant in
    let gone : c.loop-left.left ≡ 0 = omega (arith, c.loop-left-test.false) in
    let none : ones n c.loop-left.left ≡ [] = ap (ones n) gone ∙ ones_none n in
    let fits : c.args.len + count_ones keep ≤ length c.args.values.now = omega (
      arith,
      count-digits_below keep n c.requires.clear,
      count-le (digits keep 0 n),
      length-digits keep 0 n,
      c.requires.before,
      c.requires.inside,
    ) in
    puts_ones_of items c.args.values.now values keep c.args.len end n long
    (omega (arith, c.loop-left.auto.values)) c.requires.clear fits
    (omega (arith, inv.number, ap length none, length-ones n keep c.requires.clear))
    (λ d. sym (append-nil (take end values))
    ∙ ap (λ l. take end values ++ map (λ i. get_or items i d) l) (sym none) ∙ inv.front d)
    inv.behind

pub overflow_add-values : goal.overflow_add-values
overflow_add-values g c =
    let left : ℕ = c.loop-left.left in
    let some : 0 < left = omega (arith, c.loop-left-test.true) in
    let inside = lowest_below c.args.n left some c.loop-left.invariant.clear c.requires.few in
    omega (arith, inside, c.requires.inside)

pub offset_bounds-values-start : goal.offset_bounds-values-start
offset_bounds-values-start g c =
    let left : ℕ = c.loop-left.left in
    let some : 0 < left = omega (arith, c.loop-left-test.true) in
    let inside = lowest_below c.args.n left some c.loop-left.invariant.clear c.requires.few in
    let room : c.args.start + trailing_zeros w64 left < length c.loop-left.values =
    omega (arith, inside, c.requires.inside, c.loop-left.auto.values) in
    search rules

pub bounds-values-start : goal.bounds-values-start
bounds-values-start g c =
    let left : ℕ = c.loop-left.left in
    let some : 0 < left = omega (arith, c.loop-left-test.true) in
    let inside = lowest_below c.args.n left some c.loop-left.invariant.clear c.requires.few in
    omega (arith, inside, c.requires.inside, c.loop-left.auto.values)

pub offset_bounds-values-end : goal.offset_bounds-values-end
offset_bounds-values-end g c =
    let left : ℕ = c.loop-left.left in
    let inv = c.loop-left.invariant in
    let some : 0 < left = omega (arith, c.loop-left-test.true) in
    let inside = lowest_below c.args.n left some inv.clear c.requires.few in
    let room : c.loop-left.end < length c.loop-left.values = omega (
      arith,
      inside,
      inv.later some,
      c.requires.before,
      c.requires.inside,
      c.loop-left.auto.values,
    ) in
    search rules

pub bounds-values-end : goal.bounds-values-end
bounds-values-end g c =
    let left : ℕ = c.loop-left.left in
    let inv = c.loop-left.invariant in
    let some : 0 < left = omega (arith, c.loop-left-test.true) in
    let inside = lowest_below c.args.n left some inv.clear c.requires.few in
    omega (
      arith,
      inside,
      inv.later some,
      c.requires.before,
      c.requires.inside,
      c.loop-left.auto.values,
    )

pub overflow_add-end : goal.overflow_add-end
overflow_add-end g c =
    let left : ℕ = c.loop-left.left in
    let inv = c.loop-left.invariant in
    let some : 0 < left = omega (arith, c.loop-left-test.true) in
    let inside = lowest_below c.args.n left some inv.clear c.requires.few in
    omega (
      arith,
      inside,
      inv.later some,
      c.requires.before,
      c.requires.inside,
      c.loop-left.auto.values,
    )
