use Rattle.std.proofs.Common.{◌+◌, ◌*◌, ℕ, List, true, min, arith}
use Rattle.vb_count.proofs.HitsLemmas.{count-hits-bits_split}
use Rattle.vb_count.proofs.rest.add_pair.Goals as goal

pub returns-clause-value : goal.returns-clause-value
returns-clause-value g c =
    let b : List ℕ = (g.G.Glance.seen c.args.src.now).bytes in
    let o : ℕ = 8 * c.args.at in
    let k : ℕ = c.args.k in
    let before : ℕ = 128 * min k c.args.pairs in let after : ℕ = 128 * min (k + 1) c.args.pairs in
    let place : ℕ = 8 * (c.args.at + 16 * k) in
    omega (
      arith,
      c.count_word-first.ensures.value,
      rw c.count_word-first.ensures.looks.same at c.count_word-second.ensures.value,
      count-hits-bits_split true b o before after place 128 (omega arith) (omega arith),
      count-hits-bits_split true b place 64 128 (8 * (c.args.at + 16 * k + 8)) 64
          (omega arith) (omega arith),
    )
