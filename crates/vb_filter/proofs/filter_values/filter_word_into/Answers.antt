use Rattle.std.proofs.Common.{ℕ, length, sym, ◌∙◌}
use Rattle.vb_bits.specs.Digits.{digits}
use Rattle.vb_bits.specs.Kept.{kept_by}
use Rattle.vb_filter.proofs.GatherLemmas.{puts_front}
use Rattle.vb_walk.proofs.WordOnes.{length-kept_by_ones}
use Rattle.vb_filter.proofs.filter_values.filter_word_into.Goals as goal

pub returns-clause-kept : goal.returns-clause-kept
returns-clause-kept g c =
    let values = c.args.values.now in
    let keep : ℕ = c.args.keep in
    puts_front (kept_by (digits keep 0 (length values)) values) c.args.out.now _ _
    (c.put_word.ensures.count ∙ sym (length-kept_by_ones values keep c.requires.clear))
    c.put_word.ensures.kept
