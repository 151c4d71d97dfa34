use Rattle.std.proofs.Common.{◌≡◌, ◌*◌, map, take, drop}
use Rattle.std.specs.Int.{from_bool}
use Rattle.vb_bits.specs.Bits.{bits}
use Rattle.vb_expand.proofs.unpack.unpack_bytes.Given as goal

-- the bits of the words so far
abbrev pub invariant-loop-t : goal.invariant-loop-t
invariant-loop-t l = record {
  front : take (64 * l.t) l.out ≡ map from_bool (bits l.bytes l.offset (64 * l.t));
  after : drop (64 * l.t) l.out ≡ drop (64 * l.t) l.fn.out;
}
