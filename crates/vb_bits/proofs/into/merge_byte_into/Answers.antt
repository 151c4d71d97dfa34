use Rattle.std.proofs.Common.{arith}
use Rattle.vb_bits.proofs.OperatorsLemmas.{Writes_into_digits, Writes_into_none}
use Rattle.vb_bits.proofs.into.merge_byte_into.Goals as goal

pub returns-then-len-eq0 : goal.returns-then-len-eq0
returns-then-len-eq0 g c =
    Writes_into_none g.M.Merge.bit c.args.out.now c.args.left.now c.args.right.now c.args.o c.args.l
    c.args.r c.args.len (omega (arith, c.if-len-eq0.true))

pub returns : goal.returns
returns g c =
    let b = c.args.out.now in let n = c.args.len in
    Writes_into_digits g.M.Merge.bit b c.write_in_byte.new.bytes c.args.left.now c.args.right.now
    c.args.o c.args.l c.args.r n c.word.result c.read_few-first.result c.read_few-second.result
    (omega (arith, c.requires.in_byte)) c.read_few-first.ensures c.read_few-second.ensures
    c.word.ensures c.write_in_byte.ensures
