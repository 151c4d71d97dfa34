use Rattle.std.proofs.Common.{◌∙◌}
use Rattle.vb_count.proofs.LanesLemmas.{EightWords-counts, sum-counts}
use Rattle.vb_count.proofs.ones.Ones.sums.Goals as goal

pub invariant_of-result : goal.invariant_of-result
invariant_of-result c = EightWords-counts c.self.inside.lanes c.self.invariant

pub returns : goal.returns
returns c = sum-counts c.self.inside.lanes ∙ c.self.view_is
