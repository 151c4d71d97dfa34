use Rattle.std.proofs.Common.{refl}
use Rattle.vb_filter.proofs.ElementsLemmas.{halves_written, halves_behind}
use Rattle.vb_filter.proofs.filter_elements.put_eight.Goals as goal

pub returns-clause-front : goal.returns-clause-front
returns-clause-front g c =
    halves_written c.args.keep 4 15 refl c.requires.clear c.args.values.now c.requires.long _ _ _
    c.args.len c.put_four.ensures.front c.put_four-2.ensures.front

pub returns-clause-behind : goal.returns-clause-behind
returns-clause-behind g c =
    halves_behind c.args.keep 4 15 refl c.requires.clear c.args.values.now c.requires.long _ _ _
    c.args.len c.put_four.ensures.behind c.put_four-2.ensures.behind
