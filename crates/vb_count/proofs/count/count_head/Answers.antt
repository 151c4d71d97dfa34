use Rattle.std.proofs.Common.{◌≡◌, ◌-◌, ◌/◌, ◌%◌, ◌^◌, ℕ, List, ap, sym, arith, ◌∙◌}
use Rattle.std.specs.Prelude.{count_ones}
use Rattle.vb_bits.specs.Bits.{bits, count}
use Rattle.vb_bits.proofs.BitsLemmas.{count-bits_none, count-bits-le}
use Rattle.vb_count.proofs.RestLemmas.{ones_of_head}
use Rattle.vb_count.proofs.count.count_head.Given.{Over}
use Rattle.vb_count.proofs.count.count_head.Goals as goal
use Rattle.vb_count.proofs.count.count_head.Goals.{After-from}

pub returns-then-before-eq0-clause-value : goal.returns-then-before-eq0-clause-value
returns-then-before-eq0-clause-value g c =
    let b : List ℕ = (g.G.Glance.seen c.args.src.now).bytes in let o : ℕ = c.args.offset in
    let none : (8 - o % 8) % 8 ≡ 0 = omega arith in
    sym (ap (λ m. count (bits b o m)) none ∙ count-bits_none b o)

-- the counted part
counted : (g : Over) (c : After-from g)
    → count_ones (c.from.result / 2 ^ (c.args.offset % 8)) ≡ count
    (bits (g.G.Glance.seen c.args.src.now).bytes c.args.offset ((8 - c.args.offset % 8) % 8))
counted g c =
    let b : List ℕ = (g.G.Glance.seen c.args.src.now).bytes in let o : ℕ = c.args.offset in
    let some : 8 - o % 8 ≡ (8 - o % 8) % 8 = omega arith in
    ap (λ x. count_ones (x / 2 ^ (o % 8))) c.from.ensures ∙ ones_of_head b
    c.byte.result o c.byte.ensures.value c.byte.type_inv ∙ ap (λ m. count (bits b o m)) some

pub returns-clause-value : goal.returns-clause-value
returns-clause-value g c = counted g c

pub returns-clause-few : goal.returns-clause-few
returns-clause-few g c = omega (
  arith,
  counted g c,
  count-bits-le
      (g.G.Glance.seen c.args.src.now).bytes c.args.offset ((8 - c.args.offset % 8) % 8),
)
