use Rattle.std.proofs.Common.{◌≡◌, ◌+◌, ◌-◌, ◌*◌, ◌/◌, ◌%◌, ℕ, List, true, refl, ap, arith}
use Rattle.vb_bits.specs.Bits.{count}
use Rattle.vb_bits.proofs.BytesLemmas.{bits_of_read}
use Rattle.vb_count.proofs.HitsLemmas.{count-hits-bits_split}
use Rattle.vb_count.proofs.count.count_short.Goals as goal

pub returns-then-len-head-lt512-clause-value : goal.returns-then-len-head-lt512-clause-value
returns-then-len-head-lt512-clause-value g c =
    let b : List ℕ = (g.G.Glance.seen c.args.src.now).bytes in
    let o : ℕ = c.args.offset in
    let head : ℕ = (8 - o % 8) % 8 in
    let aligned : 8 * ((o + head) / 8) ≡ o + head = omega arith in
    omega (
      arith,
      c.count_head-ones.ensures.value,
      rw c.count_head-ones.ensures.looks.same at c.add_rest.ensures.value,
      count-hits-bits_split true b o head c.args.len
          (8 * ((o + head) / 8)) (c.args.len - head) aligned (omega arith),
    )

pub returns-else-len-head-lt512-clause-value : goal.returns-else-len-head-lt512-clause-value
returns-else-len-head-lt512-clause-value g c =
    let b : List ℕ = (g.G.Glance.seen c.args.src.now).bytes in
    let o : ℕ = c.args.offset in
    let head : ℕ = (8 - o % 8) % 8 in
    let at : ℕ = (o + head) / 8 in
    let aligned : 8 * at ≡ o + head = omega arith in
    let chunk = bits_of_read b (g.G.Glance.seen c.count_head-ones.new.src).bytes c.chunk.result
    at 64 (8 * at) c.count_head-ones.ensures.looks.same c.chunk.ensures.value refl in
    omega (
      arith,
      c.count_head-ones.ensures.value,
      c.chunk_ones.ensures,
      ap count chunk,
      count-hits-bits_split true b o head c.args.len (8 * at) 512 aligned (omega arith),
    )
