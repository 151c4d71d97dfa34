use Rattle.std.proofs.Common.{◌≡◌, ◌*◌, ◌/◌, ℕ, List, ap, arith}
use Rattle.std.specs.Prelude.{count_ones}
use Rattle.vb_bits.specs.Bits.{bits, count}
use Rattle.vb_bits.proofs.BitsLemmas.{count-bits_none}
use Rattle.vb_count.proofs.RestLemmas.{ones_of_two}
use Rattle.vb_count.proofs.rest.add_two_bytes.Goals as goal

pub returns-then-n-lt2-clause-value : goal.returns-then-n-lt2-clause-value
returns-then-n-lt2-clause-value g c =
    let b : List ℕ = (g.G.Glance.seen c.args.src.now).bytes in let o : ℕ = 8 * c.args.at in
    let none : 16 * (c.args.n / 2) ≡ 0 = omega arith in
    omega (arith, ap (λ m. count (bits b o m)) none, count-bits_none b o)

pub returns-clause-value : goal.returns-clause-value
returns-clause-value g c =
    let b : List ℕ = (g.G.Glance.seen c.args.src.now).bytes in let o : ℕ = 8 * c.args.at in
    let some : 16 * (c.args.n / 2) ≡ 16 = omega arith in
    let second = rw c.byte.ensures.look.same at c.byte-2.ensures.value in
    omega (
      arith,
      ap (λ m. count (bits b o m)) some,
      ap count_ones c.from_le_bytes.ensures,
      ones_of_two b c.byte.result
          c.byte-2.result c.args.at c.byte.ensures.value second c.byte.type_inv c.byte-2.type_inv,
    )
