use Rattle.std.proofs.Common.{◌+◌, ◌-◌, ◌*◌, ◌/◌, ℕ, List, true, arith}
use Rattle.vb_count.proofs.HitsLemmas.{count-hits-bits_split}
use Rattle.vb_count.proofs.count.add_chunks.Goals as goal

pub returns-clause-value : goal.returns-clause-value
returns-clause-value g c =
    let b : List ℕ = (g.G.Glance.seen c.args.src.now).bytes in
    let o : ℕ = 8 * c.args.at in
    let t : ℕ = c.args.n / 16 - c.from.result in
    omega (
      arith,
      c.add_few-rest.ensures.value,
      rw c.add_few-rest.ensures.looks.same at c.count_quarters.ensures.value,
      count-hits-bits_split true b o (8192 * t) (512 * c.args.n)
          (8 * (c.args.at + 1024 * t)) (512 * (c.args.n - 16 * t)) (omega arith) (omega arith),
    )
