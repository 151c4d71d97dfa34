use Rattle.std.proofs.Common.{Bool, List, arith}
use Rattle.vb_compare.proofs.TruthLemmas.{front_digits}
use Rattle.vb_compare.proofs.write.first_digits.Goals as goal

pub returns-else-IS_WIDE : goal.returns-else-IS_WIDE
returns-else-IS_WIDE g c =
    let l : List Bool = g.S.Truths.truths c.args.source.now in
    front_digits c.word.result 0 8 64 l c.word.ensures (omega arith)
