use Rattle.std.proofs.Common.{arith}
use Rattle.vb_count.proofs.LanesLemmas.{fold-wrapped}
use Rattle.vb_count.proofs.sums.Sums.total.Goals as goal

pub returns : goal.returns
returns c = omega (
  arith,
  fold-wrapped 0 c.self.inside.lanes (omega (arith, c.self.view_is)),
  c.self.view_is,
)
