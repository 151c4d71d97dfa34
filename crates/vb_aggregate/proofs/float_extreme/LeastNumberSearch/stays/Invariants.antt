-- Written by tools/write-lists from tools/families/masked_floats.txt.
use Rattle.vb_aggregate.proofs.FloatsLemmas.{NoneFound}
use Rattle.vb_aggregate.specs.Floats.{upwards}
use Rattle.vb_aggregate.proofs.float_extreme.LeastNumberSearch.stays.Given as goal

abbrev pub invariant-loop-value : goal.invariant-loop-value
invariant-loop-value g l =
    NoneFound upwards g.T.FloatSummand.float l.values l.fn.state l.value-index l.is_below
