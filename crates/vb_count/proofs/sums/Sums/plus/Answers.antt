use Rattle.std.proofs.Common.{arith, ◌∙◌, sym}
use Rattle.vb_count.proofs.LanesLemmas.{EightWords-wrapped, sum-wrapped}
use Rattle.vb_count.proofs.sums.Sums.plus.Goals as goal

pub invariant_of-result : goal.invariant_of-result
invariant_of-result c =
    EightWords-wrapped c.self.inside.lanes c.other.inside.lanes c.self.invariant c.other.invariant

pub returns : goal.returns
returns c =
    let s = c.self.view_is in let o = c.other.view_is in
    omega (
      arith,
      sum-wrapped c.self.inside.lanes c.other.inside.lanes
          (c.self.invariant.0 ∙ sym c.other.invariant.0) (omega arith),
    )
