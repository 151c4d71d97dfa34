use Rattle.std.proofs.Common.{[], refl}
use Rattle.vb_aggregate.proofs.ExtremesLemmas.{greatest_chooses}
use Rattle.vb_aggregate.proofs.extreme.masked_max.Goals as goal

pub returns : goal.returns
returns g c = c.fold_kept.ensures [] (λ laws. refl) (greatest_chooses g.T.BitIndex.number)
