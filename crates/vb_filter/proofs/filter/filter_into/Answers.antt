use Rattle.std.proofs.Common.{◌∙◌, ◌++◌, sym, ap, arith}
use Rattle.vb_bits.specs.Digits.{digits}
use Rattle.vb_bits.proofs.BitsLemmas.{bits_none, length-bits, count-le}
use Rattle.vb_bits.proofs.DigitsLemmas.{digits_none}
use Rattle.vb_view.specs.View.{bits_of}
use Rattle.vb_filter.proofs.filter.filter_into.Goals as goal

pub filter_behind-requires-clause-room : goal.filter_behind-requires-clause-room
filter_behind-requires-clause-room c =
    let mask = c.args.mask in
    record {
      inside = omega (arith, c.requires.room);
      fits = omega (
        arith,
        count-le (bits_of mask),
        length-bits mask.bytes.now mask.offset mask.len,
        mask.fits,
      );
    }

pub filter_behind-requires-clause-pending : goal.filter_behind-requires-clause-pending
filter_behind-requires-clause-pending c =
    let out = c.args.out.now in
    ap (λ l. l ++ digits 0 0 0) (bits_none out 0) ∙ digits_none 0 0 ∙ sym (bits_none out 0)
