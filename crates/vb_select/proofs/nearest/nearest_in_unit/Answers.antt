use Rattle.std.proofs.Common.{◌*◌, ℕ, List, refl, ap, arith}
use Rattle.vb_bits.specs.Bits.{bits, count}
use Rattle.vb_count.specs.Hits.{hits}
use Rattle.vb_bits.proofs.BytesLemmas.{bits_of_read}
use Rattle.vb_select.proofs.StopsLemmas.{rank_below, nearest_none, nearest_some}
use Rattle.vb_select.proofs.nearest.nearest_in_unit.Goals as goal

pub select-requires : goal.select-requires
select-requires g c =
    omega (
      arith,
      c.rank.ensures,
      c.count-here.ensures,
      rank_below c.args.which c.count-here.result (omega (arith, c.if-here-eq0.false)),
    )

pub returns-then-here-eq0-clause-found : goal.returns-then-here-eq0-clause-found
returns-then-here-eq0-clause-found g c =
    let b : List ℕ = (g.G.Glance.seen c.args.src.now).bytes in
    let w : ℕ = g.U.Unit.SIZE in
    let xs : List ℕ = g.U.Unit.bytes c.read-unit.result in
    let is = bits_of_read b b xs c.args.at w (8 * c.args.at) refl c.read-unit.ensures.value refl in
    nearest_none c.args.which (hits c.args.value (bits b (8 * c.args.at) (8 * w)))
    (omega (
      arith,
      ap (λ l. count (hits c.args.value l)) is,
      c.count-here.ensures,
      c.if-here-eq0.true,
    ))

pub returns-clause-found : goal.returns-clause-found
returns-clause-found g c =
    let b : List ℕ = (g.G.Glance.seen c.args.src.now).bytes in
    let w : ℕ = g.U.Unit.SIZE in
    let v = c.args.value in
    let xs : List ℕ = g.U.Unit.bytes c.read-unit.result in
    let is = bits_of_read b b xs c.args.at w (8 * c.args.at) refl c.read-unit.ensures.value refl in
    nearest_some c.args.which (hits v (bits xs 0 (8 * w))) (hits v (bits b (8 * c.args.at) (8 * w)))
    c.count-here.result c.rank.result c.select.result (ap (hits v) is) c.count-here.ensures
    c.rank.ensures c.select.ensures
