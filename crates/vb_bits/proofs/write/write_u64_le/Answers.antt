use Rattle.std.proofs.Common.{◌*◌, length, arith}
use Rattle.vb_bits.specs.Digits.{digits}
use Rattle.vb_bits.proofs.DigitsLemmas.{length-digits}
use Rattle.vb_bits.proofs.WordLemmas.{Writes_ends, Writes_one}
use Rattle.vb_bits.proofs.WritesLemmas.{Writes_none}
use Rattle.vb_bits.proofs.write.write_u64_le.Goals as goal

pub returns-then-n-ge4 : goal.returns-then-n-ge4
returns-then-n-ge4 c =
    Writes_ends c.args.bytes.now c.write_four.new.bytes c.write_four-then-n-ge4.new.bytes 4
    (length c.args.bytes.now) c.args.word c.if-n-ge4.true c.requires c.write_four.ensures
    c.write_four-then-n-ge4.ensures

pub returns-then-n-ge2 : goal.returns-then-n-ge2
returns-then-n-ge2 c =
    Writes_ends c.args.bytes.now c.write_two.new.bytes c.write_two-then-n-ge2.new.bytes 2
    (length c.args.bytes.now) c.args.word c.if-n-ge2.true (omega (arith, c.if-n-ge4.false))
    c.write_two.ensures c.write_two-then-n-ge2.ensures

pub returns-then-n-eq1 : goal.returns-then-n-eq1
returns-then-n-eq1 c = Writes_one c.args.bytes.now c.args.word c.if-n-eq1.true

pub returns-else-n-eq1 : goal.returns-else-n-eq1
returns-else-n-eq1 c =
    let all = 8 * length c.args.bytes.now in
    Writes_none c.args.bytes.now 0 (digits c.args.word 0 all)
    (omega (arith, length-digits c.args.word 0 all, c.if-n-ge2.false, c.if-n-eq1.false))
