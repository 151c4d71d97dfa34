use Rattle.std.proofs.Common.{ℕ, length, arith}
use Rattle.vb_walk.proofs.OnesLemmas.{lowest_below}
use Rattle.vb_aggregate.proofs.extreme.or_first.Goals as goal

pub offset_bounds-values-keep : goal.offset_bounds-values-keep
offset_bounds-values-keep g c =
    let keep : ℕ = c.args.keep in
    let inside = lowest_below (length c.args.values.now) keep c.requires.some c.requires.clear
    c.requires.few in
    omega (arith, inside)

pub bounds-values-keep : goal.bounds-values-keep
bounds-values-keep g c =
    let keep : ℕ = c.args.keep in
    let inside = lowest_below (length c.args.values.now) keep c.requires.some c.requires.clear
    c.requires.few in
    omega (arith, inside)
