use Rattle.std.proofs.Common.{◌≡◌, ◌*◌, ◌≤◌, ap, arith, subst}
use Rattle.vb_count.proofs.UnitsLemmas.{units_within}
use Rattle.vb_pair.proofs.BesideLemmas.{counted_none, counted-le, counted_more}
use Rattle.vb_pair.proofs.count_beside.count_units.Goals as goal

pub loop-k-init : goal.loop-k-init
loop-k-init g c = counted_none _ _ _ _ _ _ _ c.requires.held

pub overflow_add-ones : goal.overflow_add-ones
overflow_add-ones g c =
    let within = units_within g.U.Unit.SIZE c.loop-k.k c.args.n (omega arith) in
    record {
      fits = omega (arith, within, counted-le c.loop-k.invariant, c.count_unit-ones.ensures.few);
    }

pub loop-k-preserved : goal.loop-k-preserved
loop-k-preserved g c =
    let one = c.count_unit-ones.ensures in let at = ap (λ w. w * c.loop-k.k) c.SIZE.ensures in
    counted_more c.loop-k.invariant _ _ _ _ one.value one.looks one.beside one.held
    (omega (arith, at)) (omega (arith, at))

pub returns-clause-few : goal.returns-clause-few
returns-clause-few g c =
    let all : c.loop-k.k ≡ c.args.n = omega arith in
    subst (λ k. c.loop-k.ones ≤ 8 * (g.U.Unit.SIZE * k)) all (counted-le c.loop-k.invariant)
