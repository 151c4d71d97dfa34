use Rattle.std.proofs.Common.{◌+◌, ◌*◌, ◌/◌, ◌%◌, ℕ, List, true, arith, ◌∙◌}
use Rattle.vb_count.proofs.HitsLemmas.{count-hits-bits_split}
use Rattle.vb_count.proofs.rest.add_rest.Goals as goal

pub returns-clause-value : goal.returns-clause-value
returns-clause-value g c =
    let b : List ℕ = (g.G.Glance.seen c.args.src.now).bytes in
    let at : ℕ = c.args.at in
    let len : ℕ = c.args.len in
    let words : ℕ = 64 * (len / 64) in let whole : ℕ = 8 * (len / 8) in
    let same1 = c.add_words-words.ensures.looks.same in
    let same2 = c.add_bytes-bytes.ensures.looks.same ∙ same1 in
    omega (
      arith,
      c.add_words-words.ensures.value,
      rw same1 at c.add_bytes-bytes.ensures.value,
      rw same2 at c.add_tail.ensures.value,
      count-hits-bits_split true b (8 * at) words whole
          (8 * (at + len / 64 * 8)) (8 * (len % 64 / 8)) (omega arith) (omega arith),
      count-hits-bits_split true b
          (8 * at) whole len (8 * (at + len / 8)) (len % 8) (omega arith) (omega arith),
    )
