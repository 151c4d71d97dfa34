use Rattle.std.proofs.Common.{ℕ, ◌++◌, length, drop, sym, ap, ◌∙◌, arith}
use Rattle.vb_bits.specs.Bits.{count}
use Rattle.vb_bits.specs.Kept.{kept_by}
use Rattle.vb_bits.proofs.DigitsLemmas.{count-digits_below}
use Rattle.vb_c_gather.proofs.filter_values.filter_values.Goals as goal

pub filter_word_into-requires-clause-room : goal.filter_word_into-requires-clause-room
filter_word_into-requires-clause-room g c =
    let n : ℕ = length c.args.values.now in
    omega (
      arith,
      count-digits_below c.read_word.result n c.read_word.ensures.clear,
      ap count c.read_word.ensures.digits,
      c.requires.few,
    )

pub returns-then-values-le64 : goal.returns-then-values-le64
returns-then-values-le64 g c =
    let n : ℕ = length c.args.values.now in
    record {
      number = c.filter_word_into.ensures.count
          ∙ sym (count-digits_below c.read_word.result n c.read_word.ensures.clear)
          ∙ ap count c.read_word.ensures.digits;
      items = c.filter_word_into.ensures.kept
          ∙ ap (λ b. kept_by b c.args.values.now
          ++ drop c.filter_word_into.result c.args.out.now) c.read_word.ensures.digits;
    }
