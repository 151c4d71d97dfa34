use Rattle.std.proofs.Common.{Bool, length}
use Rattle.std.specs.Option.{option_map}
use Rattle.std.specs.Simd.Lanes.{zip2}
use Rattle.vb_compare.specs.Compares.{compares}
use Rattle.vb_compare.proofs.TruthLemmas.{length_paired}
use Rattle.vb_view.specs.View.{bits_of}
use Rattle.vb_gather.proofs.ComparedLemmas.{cleared}
use Rattle.vb_gather.proofs.compare.write_compared_with.Goals as goal

pub returns : goal.returns
returns g c =
    let values = c.args.values.now in let others = c.args.others.now in
    let f = g.T.BitIndex.number in
    let answer : g.row.T.Denot → g.row.T.Denot → Bool = λ v w. compares c.args.op (f v) (f w) in
    cleared (length values) (option_map bits_of c.args.validity) (zip2 answer values others)
    c.args.out.now c.compare_with_into.new.out c.clear_nulls.new.out
    (length_paired answer values others c.requires.others)
    c.compare_with_into.ensures c.clear_nulls.ensures
