use Rattle.std.proofs.Common.{◌+◌, ◌-◌, ℕ, arith}
use Rattle.vb_pair.proofs.MergedLemmas.{merged_ones-le}
use Rattle.vb_pair.proofs.count_beside.unit_ones.Goals as goal

pub overflow_add-result : goal.overflow_add-result
overflow_add-result g c =
    let n : ℕ = c.args.n in let first : ℕ = c.min-first.result in
    record {
      fits = omega (
        arith,
        c.few_ones-ones.ensures.few,
        c.count_short.ensures,
        merged_ones-le g.M.Merge.bit c.args.unit.now c.args.other.now (c.args.from + first) 0
            (n - first),
      );
    }

pub returns-clause-few : goal.returns-clause-few
returns-clause-few g c =
    let n : ℕ = c.args.n in let first : ℕ = c.min-first.result in
    omega (
      arith,
      c.few_ones-ones.ensures.few,
      c.count_short.ensures,
      merged_ones-le g.M.Merge.bit c.args.unit.now c.args.other.now (c.args.from + first) 0
          (n - first),
    )
