use Rattle.std.proofs.Common.{◌≡◌, ◌+◌, ◌*◌, ◌++◌, length}
use Rattle.std.specs.List.{All}
use Rattle.std.specs.Slice.Iter.{chunks_exact_rest, chunks_exact_size}
use Rattle.vb_core.specs.ByteForm.{byteform}
use Rattle.vb_core.proofs.bytes.read_items.Given as goal

abbrev pub invariant-loop-chunk : goal.invariant-loop-chunk
invariant-loop-chunk g l = record {
  size : chunks_exact_size l.chunk-iterator ≡ g.T.Element.SIZE;
  read : byteform g.T.Element.form l.items.items ++ chunks_exact_rest l.chunk-iterator ≡ l.bytes;
  len : length l.items.items * g.T.Element.SIZE + length (chunks_exact_rest l.chunk-iterator)
      ≡ length l.bytes;
  in_type : All g.T.Element.is_in_type l.items.items;
  room : l.items.cap ≡ l.initial.items.cap;
}
