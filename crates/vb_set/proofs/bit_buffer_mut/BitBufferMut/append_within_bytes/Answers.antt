use Rattle.std.proofs.Common.{rules, ℕ, ◌+◌, List, [], ◌∷◌, ◌++◌, length, ap, sym, ◌∙◌, subst}
use Rattle.vb_bit_bytes.proofs.BytesLemmas.{edits}
use Rattle.vb_bits.specs.Writes.{Writes, extension}
use Rattle.vb_bits.proofs.BitsLemmas.{length-bits}
use Rattle.vb_bits.proofs.WritesLemmas.{Writes-extension, bits-pushed}
use Rattle.vb_set.proofs.bit_buffer_mut.BitBufferMut.append_within_bytes.Goals as goal

pub returns-clause-added : goal.returns-clause-added
returns-clause-added g c = λ went.
    let b : List ℕ = c.self.inside.buffer.list in
    let new : List ℕ = c.write_bit.new.bytes.list in
    let o : ℕ = c.self.inside.offset in
    let n : ℕ = c.self.inside.len in
    let written : Writes (extension b new) new (o + n) (c.args.v ∷ []) =
    Writes-extension b new (o + n) (c.args.v ∷ []) c.write_bit.ensures.bits in
    record {
      bits = bits-pushed b new o n c.args.v written c.self.invariant.inside
          ∙ ap (λ s. s.bits ++ c.args.v ∷ []) c.self.view_is;
      len = search (rules, edits);
      bytes = subst (λ s. Writes (extension s.bytes new) new (s.offset + length s.bits)
          (c.args.v ∷ [])) c.self.view_is
          (subst (λ k. Writes (extension b new) new (o + k) (c.args.v ∷ []))
          (sym (length-bits b o n)) written);
      byte_len = search (rules, edits);
    }
