use Rattle.std.specs.Simd.Lanes.{zip2}
use Rattle.vb_compare.specs.Compares.{compares}
use Rattle.vb_compare.proofs.TruthLemmas.{length_paired}
use Rattle.vb_c_compare.proofs.CodeLemmas.{answers_in_part}
use Rattle.vb_c_compare.proofs.code.compare_with.Goals as goal

pub returns : goal.returns
returns g c =
    answers_in_part (λ op. zip2 (λ left right. compares op (g.T.BitIndex.number left)
    (g.T.BitIndex.number right)) c.args.values.now c.args.others.now) _ _ _ _ _ _ _
    c.comparison_of.ensures (length_paired _ c.args.values.now c.args.others.now c.requires.others)
    c.requires.window.window c.div_ceil.ensures c.compare_with_into.ensures
