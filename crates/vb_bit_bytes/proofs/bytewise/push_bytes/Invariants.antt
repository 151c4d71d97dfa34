use Rattle.std.proofs.Common.{◌≡◌, ◌≤◌, length}
use Rattle.vb_bit_bytes.proofs.CombinedLemmas.{IsMerged}
use Rattle.vb_bit_bytes.proofs.bytewise.push_bytes.Given as goal

abbrev pub invariant-loop-k : goal.invariant-loop-k
invariant-loop-k g l = record {
  len : length l.bytes.list ≡ l.k;
  merged : IsMerged g.M.Merge.bit l.bytes.list l.left l.right l.k;
  room : length l.left ≤ l.bytes.room;
  alignment : l.bytes.alignment ≡ l.fn.room.alignment;
}
