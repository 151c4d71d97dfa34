use Rattle.std.proofs.Common.{◌+◌, ◌*◌, ℕ, List, true, arith, ◌∙◌}
use Rattle.vb_count.proofs.HitsLemmas.{count-hits-bits_split}
use Rattle.vb_count.proofs.count.count_quarters.Goals as goal

pub loop-k-preserved : goal.loop-k-preserved
loop-k-preserved g c =
    let b : List ℕ = (g.G.Glance.seen c.args.src.now).bytes in
    let k : ℕ = c.loop-k.k in
    let p : ℕ = c.args.turns in
    let at : ℕ = c.args.at in
    let same = c.loop-k.invariant.looks.same in
    record {
      value = omega (
        arith,
        c.loop-k.invariant.value,
        rw same at c.add-sum.ensures.value,
        count-hits-bits_split true b (8 * at) (2048 * k)
            (2048 * (k + 1)) (8 * (at + 256 * k)) 2048 (omega arith) (omega arith),
        count-hits-bits_split true b (8 * (at + 256 * p)) (2048 * k)
            (2048 * (k + 1)) (8 * (at + 256 * k + 256 * p)) 2048 (omega arith) (omega arith),
        count-hits-bits_split true b (8 * (at + 256 * (2 * p))) (2048 * k)
            (2048 * (k + 1)) (8 * (at + 256 * k + 2 * (256 * p))) 2048 (omega arith) (omega arith),
        count-hits-bits_split true b (8 * (at + 256 * (3 * p))) (2048 * k)
            (2048 * (k + 1)) (8 * (at + 256 * k + 3 * (256 * p))) 2048 (omega arith) (omega arith),
      );
      looks = record {
        same = c.add-sum.ensures.looks.same ∙ same;
        looks =
            omega (arith, c.loop-k.invariant.looks.looks, c.add-sum.ensures.looks.looks);
      };
    }

pub returns-clause-value : goal.returns-clause-value
returns-clause-value g c =
    let b : List ℕ = (g.G.Glance.seen c.args.src.now).bytes in
    let m : ℕ = 2048 * c.loop-k.k in
    let p : ℕ = c.args.turns in
    let at : ℕ = c.args.at in
    omega (
      arith,
      c.total.ensures,
      c.loop-k.invariant.value,
      count-hits-bits_split true b
          (8 * at) m (2 * m) (8 * (at + 256 * p)) m (omega arith) (omega arith),
      count-hits-bits_split true b
          (8 * at) (2 * m) (3 * m) (8 * (at + 256 * (2 * p))) m (omega arith) (omega arith),
      count-hits-bits_split true b
          (8 * at) (3 * m) (8192 * p) (8 * (at + 256 * (3 * p))) m (omega arith) (omega arith),
    )
