use Rattle.std.proofs.Common.{◌≡◌, ap, ◌∙◌, arith, subst}
use Rattle.vb_bits.specs.Bits.{bits}
use Rattle.vb_bits.specs.Digits.{digits}
use Rattle.vb_bits.proofs.BytesLemmas.{bits-to_le_bytes}
use Rattle.vb_set.specs.OpenSet.{AddsBits}
use Rattle.vb_set.proofs.bit_buffer_mut.BitBufferMut.append_word_unchecked.Goals as goal

pub returns-clause-adds : goal.returns-clause-adds
returns-clause-adds g c =
    let n = c.args.count in
    let word : bits c.to_le_bytes.result 0 n ≡ digits c.args.word 0 n =
    ap (λ b. bits b 0 n) c.to_le_bytes.ensures
    ∙ bits-to_le_bytes c.args.word 0 n (omega arith) in
    subst (λ l. AddsBits l c.args.self.now c.append_bits.new.self) word c.in-Ok.ensures.ok
