use Rattle.std.proofs.Common.{Bool, List, take, subst, arith}
use Rattle.std.proofs.lemmas.List.{length-take-le}
use Rattle.vb_bits.specs.Writes.{Writes}
use Rattle.vb_bits.proofs.WritesLemmas.{Writes_none}
use Rattle.vb_compare.proofs.TruthLemmas.{front_digits}
use Rattle.vb_compare.proofs.write.write_head.Goals as goal

pub returns-then-n-ne0 : goal.returns-then-n-ne0
returns-then-n-ne0 g c =
    let l : List Bool = g.S.Truths.truths c.args.source.now in
    subst (Writes c.args.out.now c.write_in_byte.new.bytes c.args.offset)
    (front_digits c.first_digits.result 0 c.args.n 8 l c.first_digits.ensures (omega arith))
    c.write_in_byte.ensures

pub returns-else-n-ne0 : goal.returns-else-n-ne0
returns-else-n-ne0 g c =
    let l : List Bool = g.S.Truths.truths c.args.source.now in
    Writes_none c.args.out.now c.args.offset (take c.args.n l)
    (omega (arith, length-take-le c.args.n l (omega arith)))
