use Rattle.std.proofs.Common.{ℕ, List, subst, sym}
use Rattle.vb_bits.specs.Bits.{bits, Selects}
use Rattle.vb_count.specs.Hits.{hits}
use Rattle.vb_rank.proofs.ChunksLemmas.{chunk_some, chunk_past, chunk_none}
use Rattle.vb_rank.proofs.select.select_in_block.Goals as goal
use Rattle.vb_rank.proofs.select.select_in_block.Goals.{then-place-len, else-place-len}

pub returns-in_err-place-clause-place : goal.returns-in_err-place-clause-place
returns-in_err-place-clause-place g c =
    let b : List ℕ = (g.G.Glance.seen c.args.src.now).bytes in
    rw c.from_residual.ensures (chunk_none c.args.value b c.chunk-chunk.result c.args.offset
    c.args.len c.args.n c.if-offset-eq0.true c.chunk-chunk.ensures.value c.requires.block
    c.in_err-place.ensures)

pub returns-then-first-size-clause-place : goal.returns-then-first-size-clause-place
returns-then-first-size-clause-place g c =
    let b : List ℕ = (g.G.Glance.seen c.args.src.now).bytes in
    let l = hits c.args.value (bits b c.args.offset c.args.len) in
    elim c.if-place-len.branch [
      | then-place-len w ↦ subst (Selects l c.args.n) (sym w.result-is)
          (chunk_some c.args.value b c.chunk-chunk.result c.args.offset c.args.len c.args.n
          c.in_ok-place.place c.if-offset-eq0.true c.chunk-chunk.ensures.value c.requires.block
          w.if-place-len.true c.in_ok-place.ensures)
      | else-place-len w ↦ subst (Selects l c.args.n) (sym w.result-is)
          (chunk_past c.args.value b c.chunk-chunk.result c.args.offset c.args.len c.args.n
          c.in_ok-place.place c.if-offset-eq0.true c.chunk-chunk.ensures.value c.requires.block
          w.if-place-len.false c.in_ok-place.ensures)
    ]
