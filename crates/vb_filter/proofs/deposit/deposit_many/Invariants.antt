use Rattle.std.proofs.Common.{◌≡◌, ◌+◌, ◌*◌, ◌/◌, ◌%◌, ◌^◌, ◌<◌, ◌++◌, take}
use Rattle.vb_bits.specs.Bits.{bits, count}
use Rattle.vb_bits.specs.Writes.{Writes}
use Rattle.vb_view.specs.View.{bits_of}
use Rattle.vb_filter.specs.Pending.{first_bits}
use Rattle.vb_filter.specs.Spread.{spread_by}
use Rattle.vb_filter.proofs.deposit.deposit_many.Given as goal

-- the bits of the words so far are after the bits before the window
abbrev pub invariant-loop-t : goal.invariant-loop-t
invariant-loop-t l = record {
  written : first_bits l.out l.pending (l.offset + 64 * l.t)
      ≡ bits l.fn.out 0 l.offset
      ++ spread_by (take (64 * l.t) (bits_of l.fn.mask)) (bits_of l.fn.values);
  number : l.taken ≡ count (take (64 * l.t) (bits_of l.fn.mask));
  clear : l.pending < 2 ^ ((l.offset + 64 * l.t) % 64);
  others : Writes l.fn.out l.out 0 (bits l.out 0 (64 * ((l.offset + 64 * l.t) / 64)));
}
