-- Written by tools/write-lists from tools/families/compare.txt.
use Rattle.std.specs.Simd.Lanes.{zip2}
use Rattle.vb_compare.proofs.TruthLemmas.{length_paired}
use Rattle.vb_compare.specs.Floats.{compares_floats}
use Rattle.vb_c_compare.proofs.CodeLemmas.{answers_in_part}
use Rattle.vb_c_compare.proofs.floats.vb_compare_with_f64.Goals as goal

pub returns : goal.returns
returns c =
    answers_in_part (λ op. zip2 (compares_floats op) c.args.values.now c.args.others.now)
    _ _ _ _ _ _ _ c.comparison_of.ensures
    (length_paired _ c.args.values.now c.args.others.now c.requires.others)
    c.requires.window.window c.div_ceil.ensures c.compare_floats_with_into.ensures
