use Rattle.std.proofs.Common.{◌≡◌, ◌+◌, ◌*◌, ◌/◌, ◌%◌, ◌^◌, ◌<◌, ◌++◌, take}
use Rattle.vb_bits.specs.Bits.{bits, count}
use Rattle.vb_bits.specs.Kept.{kept_by}
use Rattle.vb_bits.specs.Writes.{Writes}
use Rattle.vb_view.specs.View.{bits_of}
use Rattle.vb_filter.specs.Pending.{first_bits}
use Rattle.vb_filter.proofs.filter.filter_behind.Given as goal

-- the filtered bits of the words so far follow the bits before the window
abbrev pub invariant-loop-t : goal.invariant-loop-t
invariant-loop-t l = record {
  written : first_bits l.out l.word l.len ≡ bits l.fn.out 0 l.offset
      ++ kept_by (take (64 * l.t) (bits_of l.fn.mask)) (take (64 * l.t) (bits_of l.fn.values));
  number : l.len ≡ l.offset + count (take (64 * l.t) (bits_of l.fn.mask));
  clear : l.word < 2 ^ (l.len % 64);
  others : Writes l.fn.out l.out 0 (bits l.out 0 (64 * (l.len / 64)));
}
