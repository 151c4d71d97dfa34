use Rattle.std.proofs.Common.{◌^◌, refl, ap, w32}
use Rattle.std.specs.Simd.Lanes.{digits_l}
use Rattle.std.proofs.lemmas.Simd.{below_from_Fits}
use Rattle.vb_filter.proofs.FieldsLemmas.{pairs_of, through_bytes}
use Rattle.vb_filter.proofs.fields.pair_sixteens.Goals as goal

pub returns : goal.returns
returns c =
    let small = below_from_Fits w32 c.args.lanes c.fits-lanes.1 in
    let same = ap (λ n. (2 ^ 32) ^ n) c.fits-lanes.0 in
    pairs_of 32 2 (2 ^ 64) c.args.lanes _ refl
    (ap (digits_l (2 ^ 64) 2) (through_bytes (2 ^ 32) 16 c.args.lanes small same)) small
    c.fits-lanes.0
