use Rattle.std.proofs.Common.{sym, subst, ◌∙◌}
use Rattle.vb_bits.specs.Bits.{bits, Selects}
use Rattle.vb_count.specs.Hits.{hits}
use Rattle.vb_select.proofs.SearchesLemmas.{Searched-Selects, IsSome-Selects}
use Rattle.vb_select.proofs.chunk.select_in_chunk.Goals as goal

pub unwrap-requires : goal.unwrap-requires
unwrap-requires c =
    let l = hits c.args.value (bits c.args.chunk 0 512) in
    IsSome-Selects l c.args.n c.break_value.result c.requires
    (subst (Selects l c.args.n) (sym c.break_value.ensures.value)
    (Searched-Selects l c.args.n c.find_in_chunk.result c.find_in_chunk.ensures))

pub returns : goal.returns
returns c =
    let l = hits c.args.value (bits c.args.chunk 0 512) in
    subst (Selects l c.args.n) (sym (sym c.unwrap.ensures ∙ c.break_value.ensures.value))
    (Searched-Selects l c.args.n c.find_in_chunk.result c.find_in_chunk.ensures)
