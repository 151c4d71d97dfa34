use Rattle.std.proofs.Common.{◌≡◌, ℕ, suc, ◌+◌, ◌-◌, ◌<◌, ◌∷◌, [], length, get_or, drop, refl, sym}
use Rattle.std.proofs.Common.{rules, ap, ◌∙◌, arith}
use Rattle.std.proofs.Math.Seq.{drop-cons}
use Rattle.std.specs.Int.{trailing_zeros, w64}
use Rattle.std.specs.Int.Bits.{bit_and}
use Rattle.std.proofs.lemmas.Nat.{and_le_l}
use Rattle.vb_bits.specs.Digits.{digits}
use Rattle.vb_bits.proofs.DigitsLemmas.{length-digits}
use Rattle.vb_walk.proofs.WordOnes.{ones, ones_none, ones_first, length-ones}
use Rattle.vb_walk.proofs.OnesLemmas.{lowest_below}
use Rattle.vb_walk.proofs.PlacesLemmas.{places-digits}
use Rattle.vb_expand.proofs.ScatterLemmas.{put_at, put_at-places}
use Rattle.vb_expand.proofs.scatter.scatter_ones.Goals as goal

pub loop-left-init : goal.loop-left-init
loop-left-init g c = record { items = refl; number = refl; clear = c.requires.clear }

pub loop-left-preserved : goal.loop-left-preserved
loop-left-preserved g c =
    let values = c.args.values.now in
    let n : ℕ = length c.args.out.now in
    let left : ℕ = c.loop-left.left in
    let next : ℕ = c.loop-left.next in
    let out = c.loop-left.out in
    let inv = c.loop-left.invariant in
    let value = c.index-values-next.result in
    let some : 0 < left = omega (arith, c.loop-left-test.true) in
    let first = ones_first n left some inv.clear c.requires.few in
    let there : next < length values = omega (
      arith,
      ap length first,
      inv.number,
      length-ones n c.args.places c.requires.clear,
      c.requires.enough,
    ) in
    let later : suc next ≡ next + 1 = omega arith in
    let rest : drop next values ≡ value ∷ drop (next + 1) values =
    drop-cons values next value there
    ∙ ap (λ k. get_or values next value ∷ drop k values) later
    ∙ ap (λ v. v ∷ drop (next + 1) values) (sym c.index-values-next.is) in
    record {
      items = sym (ap (λ ps. put_at ps (drop next values) out) first
          ∙ ap (λ vs. put_at (trailing_zeros w64 left ∷ ones n (bit_and left (left - 1))) vs out)
          rest) ∙ inv.items;
      number = omega (arith, ap length first, inv.number);
      clear = omega (arith, and_le_l left (left - 1), inv.clear);
    }

pub returns : goal.returns
returns g c =
    let n : ℕ = length c.args.out.now in
    let out = c.loop-left.out in
    let inv = c.loop-left.invariant in
    let values = c.args.values.now in
    let gone : c.loop-left.left ≡ 0 = omega (arith, c.loop-left-test.false) in
    let none : ones n c.loop-left.left ≡ [] = ap (ones n) gone ∙ ones_none n in
    sym (ap (λ ps. put_at ps (drop c.loop-left.next values) out) none) ∙ inv.items
    ∙ ap (λ ps. put_at ps (drop c.args.taken values) c.args.out.now)
    (sym (places-digits c.args.places n))
    ∙ put_at-places (digits c.args.places 0 n) (drop c.args.taken values) c.args.out.now
    (sym (length-digits c.args.places 0 n))

pub offset_bounds-values-next : goal.offset_bounds-values-next
offset_bounds-values-next g c =
    let n : ℕ = length c.args.out.now in
    let left : ℕ = c.loop-left.left in
    let inv = c.loop-left.invariant in
    let some : 0 < left = omega (arith, c.loop-left-test.true) in
    let there : c.loop-left.next < length c.args.values.now = omega (
      arith,
      ap length (ones_first n left some inv.clear c.requires.few),
      inv.number,
      length-ones n c.args.places c.requires.clear,
      c.requires.enough,
    ) in
    search rules

pub bounds-values-next : goal.bounds-values-next
bounds-values-next g c =
    let n : ℕ = length c.args.out.now in
    let left : ℕ = c.loop-left.left in
    let inv = c.loop-left.invariant in
    let some : 0 < left = omega (arith, c.loop-left-test.true) in
    omega (
      arith,
      ap length (ones_first n left some inv.clear c.requires.few),
      inv.number,
      length-ones n c.args.places c.requires.clear,
      c.requires.enough,
    )

pub offset_bounds-out-place : goal.offset_bounds-out-place
offset_bounds-out-place g c =
    let left : ℕ = c.loop-left.left in
    let some : 0 < left = omega (arith, c.loop-left-test.true) in
    let inside : trailing_zeros w64 left < length c.loop-left.out = omega (
      arith,
      lowest_below (length c.args.out.now) left some c.loop-left.invariant.clear c.requires.few,
      c.loop-left.auto.out,
    ) in
    search rules

pub bounds-out-place : goal.bounds-out-place
bounds-out-place g c =
    let left : ℕ = c.loop-left.left in
    let some : 0 < left = omega (arith, c.loop-left-test.true) in
    let inside = lowest_below (length c.args.out.now) left some c.loop-left.invariant.clear
    c.requires.few in
    omega (arith, inside, c.loop-left.auto.out)

pub overflow_add-next : goal.overflow_add-next
overflow_add-next g c =
    let n : ℕ = length c.args.out.now in
    let left : ℕ = c.loop-left.left in
    let inv = c.loop-left.invariant in
    let some : 0 < left = omega (arith, c.loop-left-test.true) in
    omega (
      arith,
      ap length (ones_first n left some inv.clear c.requires.few),
      inv.number,
      length-ones n c.args.places c.requires.clear,
      c.requires.enough,
    )
