use Rattle.std.proofs.Common.{◌^◌, refl, ap, w16}
use Rattle.std.specs.Simd.Lanes.{digits_l}
use Rattle.std.proofs.lemmas.Simd.{below_from_Fits}
use Rattle.vb_filter.proofs.FieldsLemmas.{pairs_of, through_bytes}
use Rattle.vb_filter.proofs.fields.pair_eights.Goals as goal

pub returns : goal.returns
returns c =
    let small = below_from_Fits w16 c.args.lanes c.fits-lanes.1 in
    let same = ap (λ n. (2 ^ 16) ^ n) c.fits-lanes.0 in
    pairs_of 16 4 (2 ^ 32) c.args.lanes _ refl
    (ap (digits_l (2 ^ 32) 4) (through_bytes (2 ^ 16) 16 c.args.lanes small same)) small
    c.fits-lanes.0
