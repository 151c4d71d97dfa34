use Rattle.std.proofs.Common.{◌≡◌, ◌*◌, ◌/◌, ℕ, List, ap, arith, ◌∙◌}
use Rattle.std.specs.Prelude.{count_ones}
use Rattle.vb_bits.specs.Bits.{bits, count}
use Rattle.vb_bits.proofs.BitsLemmas.{count-bits_none}
use Rattle.vb_count.proofs.RestLemmas.{ones_of_four}
use Rattle.vb_count.proofs.rest.add_four_bytes.Goals as goal

pub returns-then-n-lt4-clause-value : goal.returns-then-n-lt4-clause-value
returns-then-n-lt4-clause-value g c =
    let b : List ℕ = (g.G.Glance.seen c.args.src.now).bytes in let o : ℕ = 8 * c.args.at in
    let none : 32 * (c.args.n / 4) ≡ 0 = omega arith in
    omega (arith, ap (λ m. count (bits b o m)) none, count-bits_none b o)

pub returns-clause-value : goal.returns-clause-value
returns-clause-value g c =
    let b : List ℕ = (g.G.Glance.seen c.args.src.now).bytes in let o : ℕ = 8 * c.args.at in
    let some : 32 * (c.args.n / 4) ≡ 32 = omega arith in
    let same1 = c.byte.ensures.look.same in
    let same2 = c.byte-2.ensures.look.same ∙ same1 in
    let same3 = c.byte-3.ensures.look.same ∙ same2 in
    let second = rw same1 at c.byte-2.ensures.value in
    let third = rw same2 at c.byte-3.ensures.value in
    let fourth = rw same3 at c.byte-4.ensures.value in
    omega (
      arith,
      ap (λ m. count (bits b o m)) some,
      ap count_ones c.from_le_bytes.ensures,
      ones_of_four b c.byte.result c.byte-2.result
          c.byte-3.result c.byte-4.result c.args.at c.byte.ensures.value second third fourth
          c.byte.type_inv c.byte-2.type_inv c.byte-3.type_inv c.byte-4.type_inv,
    )
