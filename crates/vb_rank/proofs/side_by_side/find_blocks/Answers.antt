use Rattle.std.proofs.Common.{ℕ, arith, ◌∙◌, get_or}
use Rattle.vb_rank.proofs.TablesLemmas.{digits-half}
use Rattle.vb_rank.proofs.LanesLemmas.{some_of}
use Rattle.vb_rank.proofs.side_by_side.find_blocks.Goals as goal

pub loop-left-preserved : goal.loop-left-preserved
loop-left-preserved g c =
    let left : ℕ = c.loop-left.left in
    let step = digits-half left (omega (arith, c.loop-left-test.true)) in
    record {
      each = λ i d h.
          let same = c.requires.held (get_or c.args.levels.now i d) c.loop-left.source
          c.args.source.now c.loop-left.invariant.same in
          let f = c.halve_each.ensures.each i d h in
          rw same at f;
      small = λ i h. omega
          (arith, c.halve_each.ensures.left i h, c.loop-left.invariant.small i h);
      same = c.halve_each.ensures.same ∙ c.loop-left.invariant.same;
      probes = λ x. omega (
        arith,
        (c.halve_each.ensures.probes x).probes,
        c.loop-left.invariant.probes x,
        step,
      );
    }

pub returns-clause-within : goal.returns-clause-within
returns-clause-within g c = λ k h.
    let d = some_of c.args.levels.now (omega (arith, c.type_inv.levels)) in
    let f = c.loop-left.invariant.each k d h in
    omega (arith, f.within, f.some, c.requires.sizes k d h)

pub returns-clause-low : goal.returns-clause-low
returns-clause-low g c = λ k h.
    let d = some_of c.args.levels.now (omega (arith, c.type_inv.levels)) in
    (c.loop-left.invariant.each k d h).low
