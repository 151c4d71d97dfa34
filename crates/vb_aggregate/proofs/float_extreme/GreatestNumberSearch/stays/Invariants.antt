-- Written by tools/write-lists from tools/families/masked_floats.txt.
use Rattle.vb_aggregate.proofs.FloatsLemmas.{NoneFound}
use Rattle.vb_aggregate.specs.Floats.{downwards}
use Rattle.vb_aggregate.proofs.float_extreme.GreatestNumberSearch.stays.Given as goal

abbrev pub invariant-loop-value : goal.invariant-loop-value
invariant-loop-value g l =
    NoneFound downwards g.T.FloatSummand.float l.values l.fn.state l.value-index l.is_above
