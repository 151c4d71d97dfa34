use Rattle.std.proofs.Common.{[], refl}
use Rattle.vb_aggregate.proofs.ExtremesLemmas.{least_chooses}
use Rattle.vb_aggregate.proofs.extreme.masked_min.Goals as goal

pub returns : goal.returns
returns g c = c.fold_kept.ensures [] (λ laws. refl) (least_chooses g.T.BitIndex.number)
