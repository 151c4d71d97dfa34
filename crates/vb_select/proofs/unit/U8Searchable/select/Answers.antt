use Rattle.std.proofs.Common.{Some, ap, arith, subst}
use Rattle.vb_bits.specs.Bits.{count, Selects}
use Rattle.vb_bits.proofs.DigitsLemmas.{count-digits_below}
use Rattle.vb_select.proofs.unit.U8Searchable.select.Goals as goal

pub select_in_byte-requires : goal.select_in_byte-requires
select_in_byte-requires c =
    let part = c.byte_part in
    omega (
      arith,
      c.requires,
      ap count part.ensures.digits,
      count-digits_below
          part.result 8 part.ensures.clear,
      count-digits_below part.result 64 part.type_inv,
    )

pub returns : goal.returns
returns c =
    let part = c.byte_part in let place = c.select_in_byte in
    subst (λ l. Selects l c.args.n (Some place.result)) part.ensures.digits place.ensures
