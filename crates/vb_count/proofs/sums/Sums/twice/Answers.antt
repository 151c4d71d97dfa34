use Rattle.std.proofs.Common.{arith, refl}
use Rattle.vb_count.proofs.LanesLemmas.{EightWords-wrapped, sum-wrapped}
use Rattle.vb_count.proofs.sums.Sums.twice.Goals as goal

pub invariant_of-result : goal.invariant_of-result
invariant_of-result c =
    EightWords-wrapped c.self.inside.lanes c.self.inside.lanes c.self.invariant c.self.invariant

pub returns : goal.returns
returns c =
    let s = c.self.view_is in
    omega (arith, sum-wrapped c.self.inside.lanes c.self.inside.lanes refl (omega arith))
