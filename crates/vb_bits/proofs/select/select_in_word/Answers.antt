use Rattle.std.proofs.Common.{arith}
use Rattle.vb_bits.proofs.SelectsLemmas.{Selects-digits_inside}
use Rattle.vb_bits.proofs.select.select_in_word.Goals as goal

pub overflow_add-result-3 : goal.overflow_add-result-3
overflow_add-result-3 c =
    omega (
      arith,
      Selects-digits_inside _ _ _ _ _ c.select_in_byte.ensures,
      c.halve-half.ensures.within,
      c.halve-quarter.ensures.within,
      c.halve-byte.ensures.within,
    )
