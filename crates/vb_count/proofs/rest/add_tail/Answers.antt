use Rattle.std.proofs.Common.{◌≡◌, ◌*◌, ℕ, List, ap, sym, arith, ◌∙◌}
use Rattle.std.specs.Prelude.{count_ones}
use Rattle.vb_bits.specs.Bits.{bits, count}
use Rattle.vb_bits.proofs.BitsLemmas.{count-bits_none, count-bits-le}
use Rattle.vb_bits.proofs.DigitsLemmas.{count-digits_below}
use Rattle.vb_count.proofs.RestLemmas.{bits_of_byte_at}
use Rattle.vb_count.proofs.rest.add_tail.Given.{Over}
use Rattle.vb_count.proofs.rest.add_tail.Goals as goal
use Rattle.vb_count.proofs.rest.add_tail.Goals.{After-byte_part}

pub returns-then-len-eq0-clause-value : goal.returns-then-len-eq0-clause-value
returns-then-len-eq0-clause-value g c =
    let b : List ℕ = (g.G.Glance.seen c.args.src.now).bytes in let o : ℕ = 8 * c.args.at in
    omega (arith, ap (λ m. count (bits b o m)) c.if-len-eq0.true, count-bits_none b o)

-- the counted part
counted : (g : Over) (c : After-byte_part g) → count_ones c.byte_part.result
    ≡ count (bits (g.G.Glance.seen c.args.src.now).bytes (8 * c.args.at) c.args.len)
counted g c =
    let b : List ℕ = (g.G.Glance.seen c.args.src.now).bytes in
    sym (count-digits_below c.byte_part.result c.args.len c.byte_part.ensures.clear)
    ∙ ap count c.byte_part.ensures.digits
    ∙ ap count
    (bits_of_byte_at b c.byte.result c.args.at c.args.len c.byte.ensures.value (omega arith))

pub overflow_add-result : goal.overflow_add-result
overflow_add-result g c = record {
  fits = omega (
    arith,
    counted g c,
    count-bits-le (g.G.Glance.seen c.args.src.now).bytes (8 * c.args.at) c.args.len,
  );
}

pub returns-clause-value : goal.returns-clause-value
returns-clause-value g c = omega (arith, counted g c)
