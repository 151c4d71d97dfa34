use Rattle.std.proofs.Common.{◌*◌, ◌/◌, ◌^◌, length, sym, subst, arith, zero-add}
use Rattle.vb_bits.specs.Digits.{digits}
use Rattle.vb_bits.specs.Writes.{Writes}
use Rattle.vb_bits.proofs.OperatorsLemmas.{Writes_merged_number}
use Rattle.vb_bits.proofs.ReadLemmas.{digits_front, digits_inside}
use Rattle.vb_bits.proofs.WordLemmas.{Writes_digits}
use Rattle.vb_bits.proofs.few.merge_in_bytes.Goals as goal

pub returns : goal.returns
returns g c =
    let b = c.args.dst.now in let d = c.args.d in let n = c.args.count in
    let old = c.read_u64_le-old.result in let all = 8 * length b in
    let new = c.write_u64_le.new.bytes in let w = c.word.result in
    let written = Writes_digits b new 0 d n all old c.with_digits.result w c.requires.inside
    (digits_front b old 0 64 all c.read_u64_le-old.ensures (omega (arith, c.requires.few)))
    c.with_digits.ensures.inside
    (λ r l h. c.with_digits.ensures.others r (omega (arith, c.requires.few)) h)
    c.write_u64_le.ensures in
    Writes_merged_number g.M.Merge.bit b new d n w (old / 2 ^ d) c.args.right
    (omega (arith, c.requires.few, c.requires.inside))
    (digits_inside b old 0 64 d n d c.read_u64_le-old.ensures (sym (zero-add d))
    (omega (arith, c.requires.few, c.requires.inside)))
    c.word.ensures (subst (λ o. Writes b new o (digits w 0 n)) (zero-add d) written)
