use Rattle.std.proofs.Common.{ℕ, ◌<◌, length, sym, ◌∙◌, arith}
use Rattle.std.specs.Int.{trailing_zeros, w64}
use Rattle.std.proofs.lemmas.List.{get_or_default}
use Rattle.vb_walk.proofs.OnesLemmas.{lowest_below}
use Rattle.vb_aggregate.proofs.OnesLemmas.{takes_none, takes_more, takes_all}
use Rattle.vb_aggregate.proofs.fold.fold_ones.Goals as goal

pub loop-left-init : goal.loop-left-init
loop-left-init g c =
    takes_none g.F.Fold.shows c.args.start c.args.values.now c.args.keep c.requires.clear

pub loop-left-preserved : goal.loop-left-preserved
loop-left-preserved g c =
    let values = c.args.values.now in
    let left : ℕ = c.loop-left.left in
    let some : 0 < left = omega (arith, c.loop-left-test.true) in
    let inside = lowest_below (length values) left some c.loop-left.invariant.clear
    c.requires.few in
    takes_more c.loop-left.invariant c.index-values-place.result c.add-state.result some
    c.requires.few (λ d. sym (c.index-values-place.is ∙ get_or_default values
    (trailing_zeros w64 left) c.index-values-place.result d inside)) c.add-state.ensures

pub returns : goal.returns
returns g c =
    takes_all c.loop-left.invariant (omega (arith, c.loop-left-test.false)) c.requires.clear

pub offset_bounds-values-place : goal.offset_bounds-values-place
offset_bounds-values-place g c =
    let left : ℕ = c.loop-left.left in
    let some : 0 < left = omega (arith, c.loop-left-test.true) in
    let inside = lowest_below (length c.args.values.now) left some c.loop-left.invariant.clear
    c.requires.few in
    omega (arith, inside)

pub bounds-values-place : goal.bounds-values-place
bounds-values-place g c =
    let left : ℕ = c.loop-left.left in
    let some : 0 < left = omega (arith, c.loop-left-test.true) in
    let inside = lowest_below (length c.args.values.now) left some c.loop-left.invariant.clear
    c.requires.few in
    omega (arith, inside)
