use Rattle.std.proofs.Common.{rules}
use Rattle.vb_bit_bytes.proofs.BytesLemmas.{edits}
use Rattle.vb_set.proofs.bit_buffer_mut.BitBufferMut.reserve_exact.Goals as goal

pub returns-clause-needs : goal.returns-clause-needs
returns-clause-needs g c = record {
  in_room = search (rules, edits);
  fits = search (rules, edits);
  too_many = search (rules, edits);
  err = search (rules, edits);
}
