use Rattle.std.proofs.Common.{◌≡◌, ◌+◌, ◌*◌, ◌≤◌, length, take}
use Rattle.vb_set.specs.OpenSet.{AddsBits}
use Rattle.vb_set.proofs.bit_buffer_mut.BitBufferMut.append_bools.Given as goal

-- the previous blocks were appended, and there is capacity for the others
abbrev pub invariant-loop-block : goal.invariant-loop-block
invariant-loop-block g l = record {
  adds : AddsBits (take (512 * l.block) l.bools) l.fn.self l.self;
  offset : l.self.offset ≡ l.fn.self.offset;
  alignment : l.self.alignment ≡ l.fn.self.alignment;
  grows : l.fn.self.room ≤ l.self.room;
  room : length l.fn.self.bits + length l.bools ≤ l.self.room;
  stays : length l.fn.self.bits + length l.bools ≤ l.fn.self.room → l.self.room ≡ l.fn.self.room;
}
