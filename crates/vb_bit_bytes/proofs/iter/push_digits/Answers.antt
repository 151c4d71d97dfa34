use Rattle.std.proofs.Common.{◌≡◌, ◌+◌, ◌*◌, ◌++◌, length, take, sym, ap, ◌∙◌, arith, subst}
use Rattle.std.specs.Int.{w64, to_le_bytes}
use Rattle.vb_bit_bytes.proofs.ItemsLemmas.{bits-push_digits}
use Rattle.vb_bits.specs.Bits.{bits}
use Rattle.vb_bits.specs.Digits.{digits}
use Rattle.vb_bits.specs.Writes.{Writes, extension}
use Rattle.vb_bits.proofs.DigitsLemmas.{length-digits}
use Rattle.vb_bits.proofs.WritesLemmas.{bits_behind}
use Rattle.vb_bit_bytes.proofs.iter.push_digits.Goals as goal

pub returns-clause-bits : goal.returns-clause-bits
returns-clause-bits g c =
    let old = c.args.bytes.now.list in
    let new = c.extend_from_slice.new.self.list in
    let m = c.div_ceil.result in
    let added : new ≡ old ++ take m c.to_le_bytes.result =
    c.in_ok-extend_from_slice.ensures.ok.list in
    let is : new ≡ old ++ take m (to_le_bytes w64 c.args.word) =
    added ∙ ap (λ l. old ++ take m l) c.to_le_bytes.ensures in
    bits-push_digits old new c.args.word c.args.count m is (omega arith) (omega arith)

-- a whole word
pub returns-then-capacity-len-ge8-clause-bits : goal.returns-then-capacity-len-ge8-clause-bits
returns-then-capacity-len-ge8-clause-bits g c =
    let old = c.args.bytes.now.list in
    let new = c.push_word_unchecked.new.bytes.list in
    let n = 8 * length old in
    let d = digits c.args.word 0 64 in
    let start : n ≡ 0 + n = omega arith in
    let written : Writes (extension old new) new (0 + n) d =
    subst (λ p. Writes (extension old new) new p d) start c.push_word_unchecked.ensures.bits in
    let joined : bits new 0 (n + 64) ≡ bits old 0 n ++ d =
    ap (λ k. bits new 0 (n + k)) (sym (length-digits c.args.word 0 64))
    ∙ bits_behind old new 0 n d written (omega arith) in
    subst (λ k. bits new 0 (n + k) ≡ bits old 0 n ++ digits c.args.word 0 k)
    (sym c.if-count-eq64.true) joined
