use Rattle.std.proofs.Common.{ℕ, List, ◌+◌, ◌-◌, ◌*◌, min, refl, arith}
use Rattle.vb_select.proofs.SearchesLemmas.{Searched_inside}
use Rattle.vb_rank.proofs.ChunksLemmas.{chunk_some, chunk_past, chunk_none}
use Rattle.vb_rank.proofs.TablesLemmas.{Selects-block_some, Selects-block_none}
use Rattle.vb_rank.proofs.side_by_side.select_held.Goals as goal

pub returns-in_err-place-clause-place : goal.returns-in_err-place-clause-place
returns-in_err-place-clause-place g c = λ t e begins.
    let b : List ℕ = (g.G.Glance.seen c.args.src.now).bytes in
    let m : ℕ = min (c.args.len - 512 * c.args.found.0) 512 in
    let o : ℕ = c.args.offset + 512 * c.args.found.0 in
    let has = c.has_chunk.ensures.has c.if-not-has_chunk.false in
    let held = c.requires.chunk has.0 (omega (arith, has.1, c.size.ensures)) in
    rw c.from_residual.ensures (Selects-block_none c.args.value b t c.args.offset
    c.args.len c.args.n _ _ m e begins refl (chunk_none c.args.value b c.args.chunk.now o m
    (c.args.n - c.args.found.1) has.0 held (omega arith)
    c.in_err-place.ensures))

pub returns-then-place-len-clause-place : goal.returns-then-place-len-clause-place
returns-then-place-len-clause-place g c = λ t e begins.
    let b : List ℕ = (g.G.Glance.seen c.args.src.now).bytes in
    let m : ℕ = min (c.args.len - 512 * c.args.found.0) 512 in
    let o : ℕ = c.args.offset + 512 * c.args.found.0 in
    let p : ℕ = c.in_ok-place.place in
    let has = c.has_chunk.ensures.has c.if-not-has_chunk.false in
    let held = c.requires.chunk has.0 (omega (arith, has.1, c.size.ensures)) in
    let inside =
    Searched_inside c.args.value c.args.chunk.now 0 512 _ _ c.in_ok-place.ensures in
    Selects-block_some c.args.value b t c.args.offset c.args.len c.args.n _ _ m p e begins refl
    (chunk_some c.args.value b c.args.chunk.now o m (c.args.n - c.args.found.1) p
    has.0 held (omega arith)
    (omega (arith, c.if-place-len.true, inside)) c.in_ok-place.ensures)

pub returns-else-place-len-clause-place : goal.returns-else-place-len-clause-place
returns-else-place-len-clause-place g c = λ t e begins.
    let b : List ℕ = (g.G.Glance.seen c.args.src.now).bytes in
    let m : ℕ = min (c.args.len - 512 * c.args.found.0) 512 in
    let o : ℕ = c.args.offset + 512 * c.args.found.0 in
    let has = c.has_chunk.ensures.has c.if-not-has_chunk.false in
    let held = c.requires.chunk has.0 (omega (arith, has.1, c.size.ensures)) in
    Selects-block_none c.args.value b t c.args.offset c.args.len c.args.n _ _ m e begins refl
    (chunk_past c.args.value b c.args.chunk.now o m (c.args.n - c.args.found.1)
    c.in_ok-place.place has.0 held (omega arith)
    (omega (arith, c.if-place-len.false)) c.in_ok-place.ensures)
