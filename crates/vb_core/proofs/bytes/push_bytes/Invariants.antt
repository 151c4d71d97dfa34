use Rattle.std.proofs.Common.{◌≡◌, ◌+◌, ◌*◌, ◌++◌, length, take}
use Rattle.vb_core.specs.ByteForm.{byteform}
use Rattle.vb_core.proofs.bytes.push_bytes.Given as goal

abbrev pub invariant-loop-item : goal.invariant-loop-item
invariant-loop-item g l = record {
  added : l.bytes.items
      ≡ l.initial.bytes.items ++ byteform g.T.Element.form (take l.item-index l.items);
  len : length l.bytes.items ≡ length l.initial.bytes.items + l.item-index * g.T.Element.SIZE;
  room : l.bytes.cap ≡ l.initial.bytes.cap;
}
