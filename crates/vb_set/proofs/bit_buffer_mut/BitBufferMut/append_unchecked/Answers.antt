use Rattle.std.proofs.Common.{rules}
use Rattle.vb_bit_bytes.proofs.BytesLemmas.{edits}
use Rattle.vb_set.proofs.bit_buffer_mut.BitBufferMut.append_unchecked.Goals as goal

pub returns-clause-adds : goal.returns-clause-adds
returns-clause-adds g c = record {
  bits = search (rules, edits);
  len = search (rules, edits);
  bytes = search (rules, edits);
  byte_len = search (rules, edits);
}
