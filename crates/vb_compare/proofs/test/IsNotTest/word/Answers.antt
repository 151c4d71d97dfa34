use Rattle.std.proofs.Common.{not, map, ap, ◌∙◌, arith}
use Rattle.std.specs.Int.{w64}
use Rattle.vb_bits.proofs.DigitsLemmas.{digits-bit_not}
use Rattle.vb_compare.proofs.TruthLemmas.{negated}
use Rattle.vb_compare.proofs.test.IsNotTest.word.Goals as goal

pub returns : goal.returns
returns g c =
    let numbers = g.T.CompareLanes.numbers in
    digits-bit_not w64 c.word.result 0 64 c.word.type_inv (omega arith)
    ∙ ap (map not) c.word.ensures
    ∙ negated (g.C.Test.holds) (numbers c.args.left) (numbers c.args.right)
