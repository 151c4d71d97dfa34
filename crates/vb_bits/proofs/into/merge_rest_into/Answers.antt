use Rattle.std.proofs.Common.{arith}
use Rattle.vb_bits.proofs.OperatorsLemmas.{Writes_into_digits, Writes_into_none, Writes_right}
use Rattle.vb_bits.proofs.into.merge_rest_into.Goals as goal

pub returns-then-len-eq0 : goal.returns-then-len-eq0
returns-then-len-eq0 g c =
    Writes_into_none g.M.Merge.bit c.args.out.now c.args.left.now c.args.right.now c.args.o c.args.l
    c.args.r c.args.len (omega (arith, c.if-len-eq0.true))

pub returns : goal.returns
returns g c =
    let b = c.args.out.now in let n = c.args.len in
    Writes_into_digits g.M.Merge.bit b c.merge_in_eight.new.dst c.args.left.now c.args.right.now
    c.args.o c.args.l c.args.r n c.word.result c.read_in_eight-first.result
    c.read_in_eight-second.result c.requires.in_word
    c.read_in_eight-first.ensures c.read_in_eight-second.ensures c.word.ensures
    (Writes_right b c.merge_in_eight.new.dst c.args.o n c.word.result c.merge_in_eight.ensures)
