use Rattle.std.proofs.Common.{◌≡◌, ◌+◌, ◌-◌, ◌*◌, ◌/◌, ◌%◌, ℕ, List, true, ap, arith, ◌∙◌}
use Rattle.vb_bits.specs.Bits.{bits, count}
use Rattle.vb_bits.proofs.BitsLemmas.{count-bits_none}
use Rattle.vb_count.proofs.HitsLemmas.{count-hits-bits_split}
use Rattle.vb_count.proofs.count.count_long.Goals as goal
use Rattle.vb_count.proofs.count.count_long.Goals.{After-add_chunks, then-rest-eq0, else-rest-eq0}

pub returns-clause-value : goal.returns-clause-value
returns-clause-value g c =
    let b : List ℕ = (g.G.Glance.seen c.args.src.now).bytes in
    let o : ℕ = c.args.offset in
    let head : ℕ = (8 - o % 8) % 8 in
    let at : ℕ = (o + head) / 8 in
    let left : ℕ = c.args.len - head in
    let chunks : ℕ = 512 * (left / 512) in
    let place : ℕ = 8 * (at + 64 * (left / 512)) in
    let aligned : 8 * at ≡ o + head = omega arith in
    let counted : (c.if-rest-eq0.ones ≡ c.count_head-ones.result + count
    (bits b place (left % 512))) × ((g.G.Glance.seen c.if-rest-eq0.src).bytes ≡ b) =
    elim c.if-rest-eq0.branch [
      | then-rest-eq0 w ↦ (
        omega (
          arith,
          w.ones-is,
          ap (λ m. count (bits b place m)) w.if-rest-eq0.true,
          count-bits_none b place,
        ),
        ap (λ s. (g.G.Glance.seen s).bytes) w.src-is ∙ c.count_head-ones.ensures.looks.same,
      )
      | else-rest-eq0 w ↦ (
        omega (
          arith,
          w.ones-is,
          rw c.count_head-ones.ensures.looks.same at w.add_rest-ones.ensures.value,
        ),
        ap (λ s. (g.G.Glance.seen s).bytes) w.src-is
            ∙ w.add_rest-ones.ensures.looks.same ∙ c.count_head-ones.ensures.looks.same,
      )
    ] in
    omega (
      arith,
      counted.0,
      c.count_head-ones.ensures.value,
      rw counted.1 at c.add_chunks.ensures.value,
      count-hits-bits_split true b o head (head + chunks) (8 * at) chunks aligned (omega arith),
      count-hits-bits_split true b o
          (head + chunks) c.args.len place (left % 512) (omega arith) (omega arith),
    )
