use Rattle.std.proofs.Common.{rules}
use Rattle.vb_bit_bytes.proofs.BytesLemmas.{edits}
use Rattle.vb_set.proofs.bit_buffer_mut.BitBufferMut.append.Goals as goal

pub returns-in_err-push_bit-clause-needs : goal.returns-in_err-push_bit-clause-needs
returns-in_err-push_bit-clause-needs g c = record {
  in_room = search (rules, edits);
  fits = search (rules, edits);
  too_many = search (rules, edits);
  err = search (rules, edits);
}

pub returns-clause-ok : goal.returns-clause-ok
returns-clause-ok g c = record {
  bits = search (rules, edits);
  len = search (rules, edits);
  bytes = search (rules, edits);
  byte_len = search (rules, edits);
}
