use Rattle.std.proofs.Common.{[], arith}
use Rattle.vb_view.specs.View.{bits_of}
use Rattle.vb_bits.proofs.BitsLemmas.{length-bits}
use Rattle.vb_aggregate.proofs.SumsLemmas.{sum_none}
use Rattle.vb_aggregate.proofs.WordsLemmas.{kept-le}
use Rattle.vb_aggregate.proofs.sum.masked_sum.Goals as goal

pub returns : goal.returns
returns g c =
    let mask = c.args.mask in
    let all = c.fold_few_or_kept.ensures []
    (λ _. sum_none g.T.BitIndex.number g.T.WideSummand.reach
    (g.T.WideSummand.total_number c.no_total.result) c.no_total.ensures) (omega (
      arith,
      kept-le (bits_of mask) c.args.values.now,
      c.requires.same_len,
      length-bits mask.bytes.now mask.offset mask.len,
      mask.fits,
    )) in
    all.sum
