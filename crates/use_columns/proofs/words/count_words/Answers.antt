use Rattle.std.proofs.Common.{◌∙◌, ap, arith}
use Rattle.std.specs.List.{sum_by}
use Rattle.std.specs.Prelude.{count_ones}
use Rattle.vortex_buffer.specs.Bits.{count}
use Rattle.vortex_buffer.proofs.WordsLemmas.{sum_by-padded_words}
use Rattle.use_columns.proofs.words.count_words.Goals as goal

pub loop-word-init : goal.loop-word-init
loop-word-init c =
    omega (
      arith,
      ap (sum_by count_ones) (c.into_iter-word-iterator.ensures.into_iter_gives
          ∙ c.iter_padded-word-items.ensures),
      sum_by-padded_words c.new.result,
      ap count c.new.ensures.value,
    )
