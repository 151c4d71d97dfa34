use Rattle.std.proofs.Common.{rules, ◌≡◌, ℕ, ◌+◌, ◌*◌, ◌++◌, Bool, List, length, max}
use Rattle.std.proofs.Common.{sym, ap, ◌∙◌, arith, subst}
use Rattle.std.specs.Int.{div_ceil}
use Rattle.vb_bit_bytes.proofs.BytesLemmas.{edits}
use Rattle.vb_bits.specs.Bits.{bits}
use Rattle.vb_bits.specs.Digits.{digits}
use Rattle.vb_bits.specs.Writes.{Writes, extension}
use Rattle.vb_bits.proofs.BitsLemmas.{length-bits}
use Rattle.vb_bits.proofs.DigitsLemmas.{length-digits}
use Rattle.vb_bits.proofs.WritesLemmas.{bits_behind}
use Rattle.vb_set.proofs.bit_buffer_mut.BitBufferMut.append_whole_word.Goals as goal

pub returns-clause-adds : goal.returns-clause-adds
returns-clause-adds g c =
    let old : List ℕ = c.self.inside.buffer.list in
    let new : List ℕ = c.push_word_unchecked.new.bytes.list in
    let o : ℕ = c.self.inside.offset in
    let n : ℕ = c.self.inside.len in
    let d : List Bool = digits c.args.word 0 64 in
    let long : length d ≡ 64 = length-digits c.args.word 0 64 in
    let size : length (bits old o n) ≡ n = length-bits old o n in
    let place : 8 * length old ≡ o + n = search (rules, edits) in
    let written : Writes (extension old new) new (o + n) d =
    subst (λ p. Writes (extension old new) new p d) place c.push_word_unchecked.ensures.bits in
    let joined : bits new o (n + 64) ≡ bits old o n ++ d =
    ap (λ k. bits new o (n + k)) (sym long)
    ∙ bits_behind old new o n d written (omega (arith, place)) in
    let more : length new ≡ max (length old) (div_ceil (o + n + length d) 8) =
    omega (arith, c.push_word_unchecked.ensures.len, place, long) in
    record {
      bits = search (rules, edits);
      len = search (rules, edits);
      bytes = search (rules, edits);
      byte_len = search (rules, edits);
    }
