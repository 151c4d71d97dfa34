use Rattle.std.proofs.Common.{◌/◌, ◌%◌, arith, get_or}
use Rattle.vb_bits.proofs.ReadLemmas.{digits_of_byte, digits_shifted, digits_joined}
use Rattle.vb_bits.proofs.read.read_few.Goals as goal

pub returns-then-shift-count-gt8 : goal.returns-then-shift-count-gt8
returns-then-shift-count-gt8 c =
    let b = c.args.bytes.now in let f = c.args.at / 8 in
    rw c.from.ensures (rw c.from-then-shift-count-gt8.ensures
    (digits_joined b 1 f (c.args.at % 8) c.args.count (get_or b f 0) c.args.at (digits_of_byte b f)
    (omega arith) (c.type_inv.bytes f).fits (omega arith) c.requires.few (omega arith)))

pub returns-else-shift-count-gt8 : goal.returns-else-shift-count-gt8
returns-else-shift-count-gt8 c =
    let b = c.args.bytes.now in let f = c.args.at / 8 in
    rw c.from.ensures (digits_shifted b 8 f (c.args.at % 8) c.args.count (get_or b f 0) c.args.at
    (digits_of_byte b f) (omega arith) c.if-shift-count-gt8.false)
