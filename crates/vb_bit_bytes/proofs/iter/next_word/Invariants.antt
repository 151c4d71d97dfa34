use Rattle.std.proofs.Common.{◌≡◌, ◌+◌, ◌≤◌, length, take}
use Rattle.std.specs.Iterator.{size}
use Rattle.vb_bit_bytes.proofs.iter.next_word.Given as goal

abbrev pub invariant-loop-i : goal.invariant-loop-i
invariant-loop-i g l = record {
  long : length l.bools ≡ 64;
  given : take l.i l.bools ≡ l.yielded;
  nearer : size
      (g.I.Iterator.remaining l.iter) + l.i ≤ size (g.I.Iterator.remaining l.initial.iter);
}
