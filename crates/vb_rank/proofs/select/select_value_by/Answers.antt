use Rattle.std.proofs.Common.{ℕ, List, arith}
use Rattle.vb_count.proofs.HitsLemmas.{count-hits-bits-le}
use Rattle.vb_rank.proofs.TablesLemmas.{Rises-table, probes-le}
use Rattle.vb_rank.proofs.select.select_value_by.Goals as goal

pub returns-then-len-eq0-clause-place : goal.returns-then-len-eq0-clause-place
returns-then-len-eq0-clause-place g c = λ _. omega (
  arith,
  count-hits-bits-le c.args.value
      (g.G.Glance.seen c.args.src.now).bytes c.args.offset c.args.len,
)

pub find_block-found-requires-clause-some : goal.find_block-found-requires-clause-some
find_block-found-requires-clause-some g c = omega (arith, c.requires.size)

pub find_block-found-requires-clause-fits : goal.find_block-found-requires-clause-fits
find_block-found-requires-clause-fits g c =
    λ j h. omega (arith, h, c.requires.size, c.requires.window.fits)

pub select_from-requires-clause-begins : goal.select_from-requires-clause-begins
select_from-requires-clause-begins g c =
    omega (arith, c.requires.size, c.find_block-found.ensures.within)

pub returns-clause-place : goal.returns-clause-place
returns-clause-place g c = λ e.
    let b : List ℕ = (g.G.Glance.seen c.args.src.now).bytes in
    let t : List ℕ = (g.T.Probe.seen c.args.table.now).entries in
    c.select_from.ensures.place t e (c.find_block-found.ensures.block
    (Rises-table c.args.value b t c.args.offset c.args.len e))

pub returns-clause-probes : goal.returns-clause-probes
returns-clause-probes g c = probes-le c.args.len
    (g.T.Probe.seen c.args.table.now) _ c.requires.size c.find_block-found.ensures.probes
