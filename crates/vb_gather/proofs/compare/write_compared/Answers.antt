use Rattle.std.proofs.Common.{Bool, length, map}
use Rattle.std.specs.Option.{option_map}
use Rattle.std.proofs.lemmas.List.{length-map}
use Rattle.vb_compare.specs.Compares.{compares}
use Rattle.vb_view.specs.View.{bits_of}
use Rattle.vb_gather.proofs.ComparedLemmas.{cleared}
use Rattle.vb_gather.proofs.compare.write_compared.Goals as goal

pub returns : goal.returns
returns g c =
    let values = c.args.values.now in let f = g.T.BitIndex.number in
    let answer : g.row.T.Denot → Bool = λ v. compares c.args.op (f v) (f c.args.number) in
    cleared (length values) (option_map bits_of c.args.validity) (map answer values)
    c.args.out.now c.compare_into.new.out c.clear_nulls.new.out (length-map values answer)
    c.compare_into.ensures c.clear_nulls.ensures
