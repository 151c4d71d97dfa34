use Rattle.std.proofs.Common.{length, ap, sym, ◌∙◌}
use Rattle.std.specs.Prelude.{min}
use Rattle.vb_rank.proofs.TablesLemmas.{length-block_counts-bits}
use Rattle.vb_c.proofs.FilledLemmas.{Fills-in_front}
use Rattle.vb_c.proofs.rank.vb_block_counts.Goals as goal

pub returns : goal.returns
returns c =
    let a = c.args in
    Fills-in_front _ a.table.now _ _ _
    (c.min-blocks.ensures ∙ ap (λ n. min n (length a.table.now))
    (c.div_ceil.ensures ∙ sym (length-block_counts-bits a.bytes.now a.offset a.len)))
    c.write_block_counts.ensures.fills
