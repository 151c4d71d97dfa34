use Rattle.std.proofs.Common.{◌≡◌, ◌+◌, ◌*◌, ◌≤◌, length, take}
use Rattle.vb_set.specs.OpenSet.{AddsBits}
use Rattle.vb_set.specs.View.{bits_of}
use Rattle.vb_ranked.proofs.append_parts.append_parts.Given as goal

-- the previous parts were appended, and there is capacity for the others
abbrev pub invariant-loop-part : goal.invariant-loop-part
invariant-loop-part g l = record {
  adds : AddsBits (take (512 * l.part) (bits_of l.bits)) l.fn.set l.set;
  offset : l.set.offset ≡ l.fn.set.offset;
  alignment : l.set.alignment ≡ l.fn.set.alignment;
  grows : l.fn.set.room ≤ l.set.room;
  room : length l.fn.set.bits + length (bits_of l.bits) ≤ l.set.room;
  stays : length l.fn.set.bits + length (bits_of l.bits) ≤ l.fn.set.room
      → l.set.room ≡ l.fn.set.room;
}
