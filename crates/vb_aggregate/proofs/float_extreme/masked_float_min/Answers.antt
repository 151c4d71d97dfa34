-- Written by tools/write-lists from tools/families/masked_floats.txt.
use Rattle.std.proofs.Common.{[], sym, ◌∙◌}
use Rattle.vb_bits.specs.Kept.{kept_by}
use Rattle.vb_view.specs.View.{bits_of}
use Rattle.vb_aggregate.proofs.FloatsLemmas.{first_none, told_none, told_some}
use Rattle.vb_aggregate.specs.Floats.{upwards}
use Rattle.vb_aggregate.proofs.float_extreme.masked_float_min.Goals as goal

pub returns-then-is_nan : goal.returns-then-is_nan
returns-then-is_nan g c =
    let float = g.T.FloatSummand.float in
    told_none upwards float (kept_by (bits_of c.args.mask) c.args.values.now)
    c.fold_kept-least.result (c.fold_kept-least.ensures []
    (first_none upwards float c.nan.result c.nan.ensures))
    (sym c.is_nan.ensures ∙ c.if-is_nan.true)

pub returns-else-is_nan : goal.returns-else-is_nan
returns-else-is_nan g c =
    let float = g.T.FloatSummand.float in
    told_some upwards float (kept_by (bits_of c.args.mask) c.args.values.now)
    c.fold_kept-least.result (c.fold_kept-least.ensures []
    (first_none upwards float c.nan.result c.nan.ensures))
    (sym c.is_nan.ensures ∙ c.if-is_nan.false)
