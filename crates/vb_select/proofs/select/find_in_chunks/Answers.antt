use Rattle.std.proofs.Common.{◌+◌, ◌*◌, ℕ, List, Bool, refl, arith, ◌∙◌}
use Rattle.std.below.core.specs.declared.ops.ControlFlow.TheVariants.{Break}
use Rattle.vb_bits.specs.Bits.{bits, count}
use Rattle.vb_count.specs.Hits.{hits}
use Rattle.vb_select.specs.Searches.{Searched}
use Rattle.vb_select.proofs.SearchesLemmas.{Searched_inside}
use Rattle.vb_count.proofs.HitsLemmas.{count_unit_more}
use Rattle.vb_select.proofs.UnitsLemmas.{bits_of_unit, found_in_unit}
use Rattle.vb_select.proofs.select.find_in_chunks.Given.{Over}
use Rattle.vb_select.proofs.select.find_in_chunks.Goals as goal
use Rattle.vb_select.proofs.select.find_in_chunks.Goals.{After-struct_known-in-Break-1}

-- a hit in a chunk is a hit in the window
found : (g : Over) (c : After-struct_known-in-Break-1 g)
    → Searched (hits c.args.search.value (bits (g.G.Glance.seen c.args.src.now).bytes
    c.args.search.offset (c.args.search.from + 512 * c.args.chunks)))
    (c.args.search.n + count (hits c.args.search.value
    (bits (g.G.Glance.seen c.args.src.now).bytes c.args.search.offset c.args.search.from)))
    (Break (c.args.search.from + 512 * c.loop-k.k + c.in-Break.place))
found g c =
    let b : List ℕ = (g.G.Glance.seen c.args.src.now).bytes in
    let xs : List ℕ = c.chunk-chunk.result in
    let v : Bool = c.args.search.value in
    let o : ℕ = c.args.search.offset in
    let k : ℕ = c.loop-k.k in
    let at : ℕ = c.args.search.from + 512 * k in
    let is = bits_of_unit b (g.G.Glance.seen c.loop-k.src).bytes xs
    (o + c.args.search.from) (o + at) 64 64 k c.loop-k.invariant.looks.same refl
    (c.requires.aligned (omega arith)) (omega arith) c.chunk-chunk.ensures.value in
    found_in_unit v b xs o at (c.args.search.from + 512 * c.args.chunks) 64 (c.args.search.n
    + count (hits v (bits b o c.args.search.from))) c.loop-k.left c.in-Break.place
    (omega arith) is c.loop-k.invariant.passed c.in-Break.ensures

pub overflow_add-result-in-Break : goal.overflow_add-result-in-Break
overflow_add-result-in-Break g c = record {
  fits = omega (
    arith,
    Searched_inside c.args.search.value
        (g.G.Glance.seen c.args.src.now).bytes c.args.search.offset _ _ _ (found g c),
  );
}

pub returns-in-Break-clause-found : goal.returns-in-Break-clause-found
returns-in-Break-clause-found g c = found g c

pub loop-k-preserved : goal.loop-k-preserved
loop-k-preserved g c =
    let b : List ℕ = (g.G.Glance.seen c.args.src.now).bytes in
    let xs : List ℕ = c.chunk-chunk.result in
    let v : Bool = c.args.search.value in
    let o : ℕ = c.args.search.offset in
    let k : ℕ = c.loop-k.k in
    let at : ℕ = c.args.search.from + 512 * k in
    let is = bits_of_unit b (g.G.Glance.seen c.loop-k.src).bytes xs
    (o + c.args.search.from) (o + at) 64 64 k c.loop-k.invariant.looks.same refl
    (c.requires.aligned (omega arith)) (omega arith) c.chunk-chunk.ensures.value in
    let more =
    count_unit_more v b xs o at (c.args.search.from + 512 * (k + 1)) 64 (omega arith) is in
    record {
      passed = omega (arith, c.loop-k.invariant.passed, more, c.in-Continue.ensures);
      looks = record {
        same = c.chunk-chunk.ensures.look.same ∙ c.loop-k.invariant.looks.same;
        looks = omega (arith, c.loop-k.invariant.looks.looks, c.chunk-chunk.ensures.look.looks);
      };
    }
