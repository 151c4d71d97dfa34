use Rattle.std.proofs.Common.{◌≡◌, ℕ, ◌+◌, ◌++◌, List, Bool, length, ap, ◌∙◌, arith, rules}
use Rattle.vb_bits.proofs.BitsLemmas.{length-bits}
use Rattle.vb_bits.proofs.WritesLemmas.{bits_behind}
use Rattle.vb_bit_bytes.proofs.BytesLemmas.{edits}
use Rattle.vb_bits.specs.Bits.{bits}
use Rattle.vb_set.proofs.bit_buffer_mut.BitBufferMut.append_bits.Goals as goal

pub returns-in_err-push_window-clause-needs : goal.returns-in_err-push_window-clause-needs
returns-in_err-push_window-clause-needs g c = record {
  in_room = search (rules, edits);
  fits = search (rules, edits);
  too_many = search (rules, edits);
  err = search (rules, edits);
}

pub returns-clause-ok : goal.returns-clause-ok
returns-clause-ok g c =
    let old : List ℕ = c.self.inside.buffer.list in
    let new : List ℕ = c.push_window.new.bytes.list in
    let o : ℕ = c.self.inside.offset in
    let n : ℕ = c.self.inside.len in
    let added : List Bool = bits c.args.bytes.now c.args.offset c.args.len in
    let longer : n + c.args.len ≡ n + length added =
    omega (arith, length-bits c.args.bytes.now c.args.offset c.args.len) in
    let size = length-bits old o n in
    let more = length-bits c.args.bytes.now c.args.offset c.args.len in
    let joined : bits new o (n + c.args.len) ≡ bits old o n ++ added =
    ap (bits new o) longer
    ∙ bits_behind old new o n added c.in_ok-push_window.ensures.bits (omega arith) in
    record {
      bits = search (rules, edits);
      len = search (rules, edits);
      bytes = search (rules, edits);
      byte_len = search (rules, edits);
    }
