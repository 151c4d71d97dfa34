use Rattle.std.proofs.Common.{◌+◌, ◌*◌, ℕ, List, refl, arith, ◌∙◌, ap}
use Rattle.std.below.core.specs.declared.ops.ControlFlow.TheVariants.{Break}
use Rattle.vb_bits.specs.Bits.{bits, count}
use Rattle.vb_count.specs.Hits.{hits}
use Rattle.vb_select.specs.Searches.{Searched}
use Rattle.vb_select.proofs.SearchesLemmas.{Searched_inside}
use Rattle.vb_count.proofs.HitsLemmas.{count_unit_more}
use Rattle.vb_count.proofs.UnitsLemmas.{units_none, units_more, units_within}
use Rattle.vb_select.proofs.UnitsLemmas.{bits_of_unit, found_in_unit}
use Rattle.vb_select.proofs.search.find_in_units.Given.{Over}
use Rattle.vb_select.proofs.search.find_in_units.Goals as goal
use Rattle.vb_select.proofs.search.find_in_units.Goals.{After-struct_known-then-left-here-1}

pub loop-k-init : goal.loop-k-init
loop-k-init g c = record {
  passed = ap (λ x. c.args.search.n + count (hits c.args.search.value (bits (g.G.Glance.seen
      c.args.src.now).bytes c.args.search.offset x))) (omega (arith, units_none g.U.Unit.SIZE));
  looks = record { same = refl; looks = omega arith };
}

-- a hit in a unit is a hit in the window
found : (g : Over) (c : After-struct_known-then-left-here-1 g)
    → Searched (hits c.args.search.value (bits (g.G.Glance.seen c.args.src.now).bytes
    c.args.search.offset (c.args.search.from + 8 * (g.U.Unit.SIZE * c.args.units))))
    (c.args.search.n + count (hits c.args.search.value
    (bits (g.G.Glance.seen c.args.src.now).bytes c.args.search.offset c.args.search.from)))
    (Break (c.args.search.from + 8 * (c.SIZE.result * c.loop-k.k) + c.select-place.result))
found g c =
    let b : List ℕ = (g.G.Glance.seen c.args.src.now).bytes in
    let xs : List ℕ = g.U.Unit.bytes c.read-unit.result in
    let w : ℕ = g.U.Unit.SIZE in
    let k : ℕ = c.loop-k.k in
    let at : ℕ = c.args.search.from + 8 * (w * k) in
    let is = bits_of_unit b (g.G.Glance.seen c.loop-k.src).bytes xs
    (c.args.search.offset + c.args.search.from) (c.args.search.offset + at) w c.SIZE.result
    k c.loop-k.invariant.looks.same c.SIZE.ensures
    (c.requires.aligned (omega arith)) (omega arith) c.read-unit.ensures.value in
    rw c.SIZE.ensures
    (found_in_unit c.args.search.value b xs c.args.search.offset at (c.args.search.from
    + 8 * (w * c.args.units)) w (c.args.search.n + count (hits c.args.search.value
    (bits b c.args.search.offset c.args.search.from))) c.loop-k.left c.select-place.result
    (omega (arith, units_within w k c.args.units (omega arith)))
    is c.loop-k.invariant.passed c.select-place.ensures)

pub overflow_add-result-then-left-here : goal.overflow_add-result-then-left-here
overflow_add-result-then-left-here g c =
    record {
      fits = omega (
        arith,
        Searched_inside c.args.search.value
            (g.G.Glance.seen c.args.src.now).bytes c.args.search.offset _ _ _ (found g c),
      );
    }

pub returns-then-left-here-clause-found : goal.returns-then-left-here-clause-found
returns-then-left-here-clause-found g c = found g c

pub loop-k-preserved : goal.loop-k-preserved
loop-k-preserved g c =
    let b : List ℕ = (g.G.Glance.seen c.args.src.now).bytes in
    let xs : List ℕ = g.U.Unit.bytes c.read-unit.result in
    let w : ℕ = g.U.Unit.SIZE in
    let k : ℕ = c.loop-k.k in
    let at : ℕ = c.args.search.from + 8 * (w * k) in
    let is = bits_of_unit b (g.G.Glance.seen c.loop-k.src).bytes xs
    (c.args.search.offset + c.args.search.from) (c.args.search.offset + at) w c.SIZE.result
    k c.loop-k.invariant.looks.same c.SIZE.ensures
    (c.requires.aligned (omega arith)) (omega arith) c.read-unit.ensures.value in
    let more = count_unit_more c.args.search.value b xs c.args.search.offset at
    (c.args.search.from + 8 * (w * (k + 1))) w (omega (arith, units_more w k)) is in
    record {
      passed = omega (arith, c.loop-k.invariant.passed, more, c.count-here.ensures);
      looks = record {
        same = c.read-unit.ensures.look.same ∙ c.loop-k.invariant.looks.same;
        looks = omega (arith, c.loop-k.invariant.looks.looks, c.read-unit.ensures.look.looks);
      };
    }
