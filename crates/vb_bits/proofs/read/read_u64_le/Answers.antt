use Rattle.std.proofs.Common.{◌-◌, length, arith, refl}
use Rattle.vb_bits.proofs.ReadLemmas.{digits_of_number, digits_of_ends, digits_of_one}
use Rattle.vb_bits.proofs.ReadLemmas.{digits_of_no_byte}
use Rattle.vb_bits.proofs.read.read_u64_le.Goals as goal

pub returns-then-n-ge4 : goal.returns-then-n-ge4
returns-then-n-ge4 c =
    let b = c.args.bytes.now in
    rw c.from.ensures (rw c.from-then-n-ge4.ensures
    (digits_of_ends b 4 (length b) c.four_at.result c.four_at-then-n-ge4.result refl
    c.if-n-ge4.true c.requires c.requires
    (digits_of_number b c.four_at.result 0 4 c.four_at.ensures)
    (digits_of_number b c.four_at-then-n-ge4.result (length b - 4) 4 c.four_at-then-n-ge4.ensures)
    c.four_at.type_inv c.four_at-then-n-ge4.type_inv))

pub returns-then-n-ge2 : goal.returns-then-n-ge2
returns-then-n-ge2 c =
    let b = c.args.bytes.now in
    rw c.from-then-n-ge2.ensures (rw c.from-then-n-ge2-2.ensures
    (digits_of_ends b 2 (length b) c.two_at.result c.two_at-then-n-ge2.result refl
    c.if-n-ge2.true (omega (arith, c.if-n-ge4.false)) c.requires
    (digits_of_number b c.two_at.result 0 2 c.two_at.ensures)
    (digits_of_number b c.two_at-then-n-ge2.result (length b - 2) 2 c.two_at-then-n-ge2.ensures)
    c.two_at.type_inv c.two_at-then-n-ge2.type_inv))

pub returns-then-n-eq1 : goal.returns-then-n-eq1
returns-then-n-eq1 c =
    rw c.from-then-n-eq1.ensures
    (digits_of_one c.args.bytes.now (c.if-n-eq1.true) (c.type_inv.bytes 0).fits)

pub returns-else-n-eq1 : goal.returns-else-n-eq1
returns-else-n-eq1 c =
    digits_of_no_byte c.args.bytes.now (omega (arith, c.if-n-ge2.false, c.if-n-eq1.false))
