use Rattle.std.proofs.Common.{of_calls, ◌≡◌, inl, inr, ℕ, ◌+◌, ◌<◌, [], eqb, length}
use Rattle.std.proofs.Common.{refl, sym, ap, subst, arith}
use Rattle.std.proofs.lemmas.Bool.{cases_lt}
use Rattle.std.proofs.lemmas.List.{nil_from_length}
use Rattle.std.specs.Int.{trailing_zeros, w64}
use Rattle.std.specs.Prelude.{count_ones}
use Rattle.std.specs.List.{FoldsTo}
use Rattle.std.proofs.lemmas.Nat.Bits.{bit_at-trailing_zeros}
use Rattle.vb_pack.specs.Asked.{CanAsk}
use Rattle.vb_bit_buffer.specs.Called.{ones_of}
use Rattle.vb_bit_buffer.proofs.CalledLemmas.{ones_of_none, ones_of_first, one_of_fewer}
use Rattle.vb_bit_buffer.proofs.CalledLemmas.{ones_fewer, length-ones_of}
use Rattle.vb_bit_buffer.proofs.bit_buffer.for_each.ones.Goals as goal

-- while the loop runs, a true digit is left
some_left : (w a i n : ℕ) → length (ones_of w a) + i ≡ n → i < n → 0 < w
some_left w a i n number more = elim (cases_lt 0 w) [
  | inl some ↦ some
  | inr none ↦
      let z : w ≡ 0 = omega arith in
      absurd (omega (arith, number, ap length (ones_of_none w a z)))
]

pub loop-init : goal.loop-init
loop-init g c = record {
  number = omega (arith, length-ones_of c.args.word c.args.base (omega arith));
  small = omega arith;
  fits = c.requires.fits;
  callable = c.requires.callable;
  ran = λ last called. called;
}

pub overflow_sub-left : goal.overflow_sub-left
overflow_sub-left g c =
    some_left c.loop.left c.args.base c.loop.counter (count_ones c.args.word)
    c.loop.invariant.number (omega arith)

pub overflow_add-base : goal.overflow_add-base
overflow_add-base g c =
    let w = c.loop.left in let inv = c.loop.invariant in
    let some = some_left w c.args.base c.loop.counter (count_ones c.args.word) inv.number
    (omega arith) in
    omega (
      arith,
      inv.fits (trailing_zeros w64 w)
          (ap (λ x. eqb x 1) (bit_at-trailing_zeros w64 w some inv.small).1),
    )

pub f-requires : goal.f-requires
f-requires g c =
    let w = c.loop.left in let inv = c.loop.invariant in
    let some = some_left w c.args.base c.loop.counter (count_ones c.args.word) inv.number
    (omega arith) in
    let first = ones_of_first w c.args.base some inv.small in
    let can = subst (CanAsk (goal.F-pre g) (goal.F-step g) c.loop.f) first inv.callable in
    let may : goal.F-pre g c.loop.f (c.args.base + trailing_zeros w64 w) = can.0 in
    search of_calls

pub loop-preserved : goal.loop-preserved
loop-preserved g c =
    let w = c.loop.left in let inv = c.loop.invariant in
    let some = some_left w c.args.base c.loop.counter (count_ones c.args.word) inv.number
    (omega arith) in
    let first = ones_of_first w c.args.base some inv.small in
    let can = subst (CanAsk (goal.F-pre g) (goal.F-step g) c.loop.f) first inv.callable in
    record {
      number = omega (arith, inv.number, ap length first);
      small = omega (arith, inv.small, ones_fewer w some);
      fits = λ i one. inv.fits i (one_of_fewer w i one);
      callable = can.1 tt c.f.new.self c.f.ensures;
      ran = λ last called. inv.ran last (subst (λ xs. FoldsTo (λ p i q. goal.F-step g p i tt q)
          c.loop.f xs last) (sym first) (c.f.new.self, c.f.ensures, called));
    }

pub returns : goal.returns
returns g c =
    let w = c.loop.left in let inv = c.loop.invariant in
    let none : ones_of w c.args.base ≡ [] = nil_from_length _ (omega (arith, inv.number)) in
    inv.ran c.loop.f
    (subst (λ xs. FoldsTo (λ p i q. goal.F-step g p i tt q) c.loop.f xs c.loop.f) (sym none) refl)
