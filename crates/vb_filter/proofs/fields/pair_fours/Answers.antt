use Rattle.std.proofs.Common.{refl, w8}
use Rattle.std.proofs.lemmas.Simd.{below_from_Fits}
use Rattle.vb_filter.proofs.FieldsLemmas.{pairs_of}
use Rattle.vb_filter.proofs.fields.pair_fours.Goals as goal

pub returns : goal.returns
returns c =
    let small = below_from_Fits w8 c.args.lanes c.fits-lanes.1 in
    pairs_of 8 8 (65536) c.args.lanes _ refl refl small c.fits-lanes.0
