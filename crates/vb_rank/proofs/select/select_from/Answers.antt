use Rattle.std.proofs.Common.{ℕ, List, arith}
use Rattle.vb_select.proofs.SearchesLemmas.{Searched_inside}
use Rattle.vb_rank.proofs.TablesLemmas.{Selects-block_some, Selects-block_none}
use Rattle.vb_rank.proofs.select.select_from.Goals as goal

pub returns-in_err-place-clause-place : goal.returns-in_err-place-clause-place
returns-in_err-place-clause-place g c = λ t e begins.
    let b : List ℕ = (g.G.Glance.seen c.args.src.now).bytes in
    rw c.from_residual.ensures (Selects-block_none c.args.value b t c.args.offset
    c.args.len c.args.n _ _ _ e begins c.min.ensures c.in_err-place.ensures.place)

pub returns-clause-place : goal.returns-clause-place
returns-clause-place g c = λ t e begins.
    let b : List ℕ = (g.G.Glance.seen c.args.src.now).bytes in
    Selects-block_some c.args.value b t
    c.args.offset c.args.len c.args.n _ _ _ _ e begins c.min.ensures c.in_ok-place.ensures.place

pub overflow_add-result : goal.overflow_add-result
overflow_add-result g c =
    let b : List ℕ = (g.G.Glance.seen c.args.src.now).bytes in
    let inside = Searched_inside c.args.value b _ _ _ _ c.in_ok-place.ensures.place in
    record { fits = omega (arith, inside, c.min.ensures, c.requires.window.fits) }
