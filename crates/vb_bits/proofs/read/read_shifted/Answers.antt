use Rattle.std.proofs.Common.{◌≡◌, ◌-◌, ◌*◌, ◌/◌, ◌%◌, ◌∙◌, length, take, drop, ap, arith}
use Rattle.std.proofs.lemmas.List.{take_all, length-drop}
use Rattle.vb_bits.specs.Bits.{bits}
use Rattle.vb_bits.specs.Digits.{digits}
use Rattle.vb_bits.proofs.ReadLemmas.{digits_shifted, bits_of_rest}
use Rattle.vb_bits.proofs.read.read_shifted.Goals as goal

pub returns-else-bytes-ge8 : goal.returns-else-bytes-ge8
returns-else-bytes-ge8 c =
    let b = c.args.bytes.now in let f = c.args.at / 8 in let w = c.read_u64_le.result in
    let rest : take (length b - f) (drop f b) ≡ drop f b =
    take_all (length b - f) (drop f b) (omega (arith, length-drop f b)) in
    let read : digits w 0 64 ≡ bits b (8 * f) 64 =
    c.read_u64_le.ensures ∙ ap (λ l. bits l 0 64) rest ∙ bits_of_rest b f 64 in
    digits_shifted b 64 f (c.args.at % 8) c.args.count w c.args.at read (omega arith)
    (omega (arith, c.if-bytes-ge8.false, c.requires.inside))
