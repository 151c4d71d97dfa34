-- Written by tools/write-lists from tools/families/masked_floats.txt.
use Rattle.std.proofs.Common.{◌<◌, length, sym, ◌∙◌, arith}
use Rattle.vb_aggregate.proofs.FloatsLemmas.{found_more, found_none}
use Rattle.vb_aggregate.specs.Floats.{downwards}
use Rattle.vb_aggregate.proofs.float_extreme.GreatestNumberSearch.stays.Goals as goal

pub loop-value-preserved : goal.loop-value-preserved
loop-value-preserved g c =
    let i = c.loop-value.value-index in
    let x = c.value-item.result in
    let inside : i < length c.args.values.now = omega arith in
    found_more downwards g.T.FloatSummand.float c.args.values.now c.args.state i
    c.loop-value.is_above x c.is_above-is_above.result inside
    c.value-item.is c.is_above-is_above.ensures c.loop-value.invariant

pub returns : goal.returns
returns g c =
    found_none downwards g.T.FloatSummand.float c.args.values.now c.args.state
    c.loop-value.value-index c.loop-value.is_above (omega arith)
    (sym c.is_nan.ensures ∙ c.if-is_nan.false) c.loop-value.invariant
