use Rattle.std.proofs.Common.{arith}
use Rattle.std.specs.Prelude.{bit_and}
use Rattle.std.proofs.lemmas.Nat.{and_le_r}
use Rattle.vb_bits.specs.Digits.{digits}
use Rattle.vb_bits.proofs.BitsLemmas.{count-le}
use Rattle.vb_bits.proofs.DigitsLemmas.{length-digits}
use Rattle.vb_bits.proofs.SelectsLemmas.{Selects-table, digits_low}
use Rattle.vb_bits.proofs.select.select_in_byte.Goals as goal

pub overflow_add-result : goal.overflow_add-result
overflow_add-result c =
    omega (
      arith,
      and_le_r c.args.word 255,
      count-le (digits c.args.word 0 8),
      length-digits c.args.word 0 8,
    )

pub bounds-word : goal.bounds-word
bounds-word c =
    omega (
      arith,
      and_le_r c.args.word 255,
      count-le (digits c.args.word 0 8),
      length-digits c.args.word 0 8,
    )

pub returns : goal.returns
returns c =
    let word = c.args.word in
    Selects-table (bit_and word 255) word c.args.n
    (omega (arith, and_le_r word 255)) (digits_low word 8 (omega arith)) c.requires
