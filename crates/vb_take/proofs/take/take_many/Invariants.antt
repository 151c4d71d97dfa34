use Rattle.std.proofs.Common.{ℕ, ◌+◌, ◌*◌, ◌≤◌, length, map}
use Rattle.std.specs.Option.{option_map}
use Rattle.vb_view.specs.View.{bits_of}
use Rattle.vb_bits.specs.Bits.{bit_of, bits}
use Rattle.vb_bits.specs.Writes.{Writes}
use Rattle.vb_take.specs.Takes.{taken_at, TakenTo}
use Rattle.vb_take.proofs.take.take_many.Given as goal

abbrev pub invariant-loop-t : goal.invariant-loop-t
invariant-loop-t g l = record {
  taken : (n : ℕ) → n ≤ 64 * l.t → n ≤ length l.indices
      → TakenTo n (taken_at (bits_of l.bits) (map g.I.BitIndex.number l.indices)
      (option_map bits_of l.validity)) (λ i. bit_of l.out (l.o + i));
  written : Writes l.fn.out l.out l.o (bits l.out l.o (length l.indices));
}
