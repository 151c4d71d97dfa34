use Rattle.std.proofs.Common.{map}
use Rattle.std.proofs.lemmas.List.{length-map}
use Rattle.vb_compare.specs.Compares.{compares}
use Rattle.vb_c_compare.proofs.CodeLemmas.{answers_in_part}
use Rattle.vb_c_compare.proofs.code.compare.Goals as goal

pub returns : goal.returns
returns g c =
    answers_in_part (λ op. map (λ value. compares op (g.T.BitIndex.number value)
    (g.T.BitIndex.number c.args.number)) c.args.values.now) _ _ _ _ _ _ _ c.comparison_of.ensures
    (length-map c.args.values.now _) c.requires.window c.div_ceil.ensures c.compare_into.ensures
