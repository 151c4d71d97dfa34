use Rattle.std.proofs.Common.{◌≡◌, ◌*◌, ◌%◌, length}
use Rattle.std.specs.Iterator.{IsFinite, Yields, size}
use Rattle.vb_bits.specs.Bits.{bits}
use Rattle.vb_bit_bytes.proofs.iter.from_iter.Given as goal

abbrev pub invariant-loop-len : goal.invariant-loop-len
invariant-loop-len g l =
    let iter = g.I.IntoIter.Iterator in
    record {
      can : iter.can_next l.rest;
      finite : IsFinite (iter.remaining l.rest);
      given : Yields iter.next_gives l.initial.rest (bits l.bytes.list 0 l.len) l.rest;
      whole : l.len ≡ 8 * length l.bytes.list;
      words : l.len % 64 ≡ 0;
      alignment : l.bytes.alignment ≡ 0;
    }

abbrev pub decreases-loop-len : goal.decreases-loop-len
decreases-loop-len g l = size (g.I.IntoIter.Iterator.remaining l.rest)
