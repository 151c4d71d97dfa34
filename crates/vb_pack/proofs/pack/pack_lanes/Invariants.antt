use Rattle.std.proofs.Common.{◌≡◌, ℕ, ◌<◌, length, get_or, false}
use mir.Val.{bool_byte}
use Rattle.vb_pack.proofs.pack.pack_lanes.Given as goal

abbrev pub invariant-loop-i : goal.invariant-loop-i
invariant-loop-i l = record {
  long : length l.bytes ≡ 64;
  written : (k : ℕ) → k < l.i → get_or l.bytes k 0 ≡ bool_byte (get_or l.bools k false);
}
