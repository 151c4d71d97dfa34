use Rattle.std.proofs.Common.{rules, ◌≡◌, ℕ, ◌+◌, ◌-◌, ◌<◌, ◌∷◌, ◌++◌, [], length, map, get_or}
use Rattle.std.proofs.Common.{take, drop, refl, append_assoc, sym, ap, ◌∙◌, arith}
use Rattle.std.specs.Int.{trailing_zeros, w64}
use Rattle.std.specs.Int.Bits.{bit_and}
use Rattle.std.proofs.lemmas.List.{take_more_set, drop-set-lt, drop-drop, get_or_default}
use Rattle.std.proofs.lemmas.List.{append-nil}
use Rattle.std.proofs.lemmas.Nat.{and_le_l}
use Rattle.vb_walk.proofs.WordOnes.{ones, ones_none, ones_first, length-ones}
use Rattle.vb_walk.proofs.OnesLemmas.{lowest_below}
use Rattle.vb_filter.proofs.GatherLemmas.{puts_ones}
use Rattle.vb_filter.proofs.filter_values.put_places.Goals as goal

pub loop-left-init : goal.loop-left-init
loop-left-init g c = record {
  front = λ d. refl;
  behind = refl;
  number = refl;
  clear = c.requires.clear;
}

pub loop-left-preserved : goal.loop-left-preserved
loop-left-preserved g c =
    let values = c.args.values.now in
    let n : ℕ = length values in
    let left : ℕ = c.loop-left.left in
    let end : ℕ = c.loop-left.end in
    let out = c.loop-left.out in
    let inv = c.loop-left.invariant in
    let place : ℕ = trailing_zeros w64 left in
    let some : 0 < left = omega (arith, c.loop-left-test.true) in
    let first = ones_first n left some inv.clear c.requires.few in
    let inside = lowest_below n left some inv.clear c.requires.few in
    let room : end < length out = omega (
      arith,
      ap length first,
      inv.number,
      length-ones n c.args.keep c.requires.clear,
      c.requires.room,
      c.loop-left.auto.out,
    ) in
    record {
      front = λ d.
          let value = λ (i : ℕ). get_or values i d in
          let rest = map value (ones n (bit_and left (left - 1))) in
          let read = c.index-values-place.is ∙ get_or_default values place _ d inside in
          ap (λ l. l ++ rest) (take_more_set out end _ room
          ∙ ap (λ x. take end out ++ (x ∷ [])) read)
          ∙ append_assoc (take end out) (value place ∷ []) rest
          ∙ ap (λ l. take end out ++ map value l) (sym first) ∙ inv.front d;
      behind = drop-set-lt (end + 1) out end _ (omega arith) ∙ sym (drop-drop 1 end out)
          ∙ ap (drop 1) inv.behind ∙ drop-drop 1 end c.args.out.now;
      number = omega (arith, ap length first, inv.number);
      clear = omega (arith, and_le_l left (left - 1), inv.clear);
    }

pub returns : goal.returns
returns g c =
    let values = c.args.values.now in
    let n : ℕ = length values in
    let end : ℕ = c.loop-left.end in
    let out = c.loop-left.out in
    let inv = c.loop-left.invariant in
    let gone : c.loop-left.left ≡ 0 = omega (arith, c.loop-left-test.false) in
    let none : ones n c.loop-left.left ≡ [] = ap (ones n) gone ∙ ones_none n in
    let many = length-ones n c.args.keep c.requires.clear in
    puts_ones values c.args.out.now out c.args.keep c.args.len end
    (omega (arith, c.loop-left.auto.out)) c.requires.clear c.requires.room
    (omega (arith, inv.number, ap length none, many))
    (λ d. sym (append-nil (take end out))
    ∙ ap (λ l. take end out ++ map (λ i. get_or values i d) l) (sym none) ∙ inv.front d)
    inv.behind

pub offset_bounds-values-place : goal.offset_bounds-values-place
offset_bounds-values-place g c =
    let left : ℕ = c.loop-left.left in
    let some : 0 < left = omega (arith, c.loop-left-test.true) in
    let inside = lowest_below (length c.args.values.now) left some c.loop-left.invariant.clear
    c.requires.few in
    omega (arith, inside)

pub bounds-values-place : goal.bounds-values-place
bounds-values-place g c =
    let left : ℕ = c.loop-left.left in
    let some : 0 < left = omega (arith, c.loop-left-test.true) in
    let inside = lowest_below (length c.args.values.now) left some c.loop-left.invariant.clear
    c.requires.few in
    omega (arith, inside)

pub offset_bounds-out-end : goal.offset_bounds-out-end
offset_bounds-out-end g c =
    let n : ℕ = length c.args.values.now in
    let left : ℕ = c.loop-left.left in
    let inv = c.loop-left.invariant in
    let some : 0 < left = omega (arith, c.loop-left-test.true) in
    let room : c.loop-left.end < length c.loop-left.out = omega (
      arith,
      ap length (ones_first n left some inv.clear c.requires.few),
      inv.number,
      length-ones n c.args.keep c.requires.clear,
      c.requires.room,
      c.loop-left.auto.out,
    ) in
    search rules

pub bounds-out-end : goal.bounds-out-end
bounds-out-end g c =
    let n : ℕ = length c.args.values.now in
    let left : ℕ = c.loop-left.left in
    let inv = c.loop-left.invariant in
    let some : 0 < left = omega (arith, c.loop-left-test.true) in
    omega (
      arith,
      ap length (ones_first n left some inv.clear c.requires.few),
      inv.number,
      length-ones n c.args.keep c.requires.clear,
      c.requires.room,
      c.loop-left.auto.out,
    )

pub overflow_add-end : goal.overflow_add-end
overflow_add-end g c =
    let n : ℕ = length c.args.values.now in
    let left : ℕ = c.loop-left.left in
    let inv = c.loop-left.invariant in
    let some : 0 < left = omega (arith, c.loop-left-test.true) in
    omega (
      arith,
      ap length (ones_first n left some inv.clear c.requires.few),
      inv.number,
      length-ones n c.args.keep c.requires.clear,
      c.requires.room,
      c.loop-left.auto.out,
    )
