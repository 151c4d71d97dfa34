-- Written by tools/write-lists from tools/families/compare.txt.
use Rattle.std.proofs.Common.{map}
use Rattle.std.proofs.lemmas.List.{length-map}
use Rattle.vb_compare.specs.Floats.{compares_floats}
use Rattle.vb_c_compare.proofs.CodeLemmas.{answers_in_part}
use Rattle.vb_c_compare.proofs.floats.vb_compare_f64.Goals as goal

pub returns : goal.returns
returns c =
    answers_in_part (λ op. map (λ value. compares_floats op value c.args.number) c.args.values.now)
    _ _ _ _ _ _ _ c.comparison_of.ensures (length-map c.args.values.now _) c.requires.window
    c.div_ceil.ensures c.compare_floats_into.ensures
