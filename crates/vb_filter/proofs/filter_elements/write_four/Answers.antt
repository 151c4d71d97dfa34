use Rattle.vb_filter.proofs.ElementsLemmas.{set_four}
use Rattle.vb_filter.proofs.filter_elements.write_four.Goals as goal

pub returns : goal.returns
returns g c =
    let four = c.args.four in
    set_four c.args.out.now c.args.len four.0 four.1 four.2 four.3 c.requires
