use Rattle.std.proofs.Common.{◌+◌, ◌^◌, ◌≤◌, ℕ, List, Bool, Some, ap, subst, refl, arith, ◌∙◌}
use Rattle.std.proofs.Common.{pow_mono}
use Rattle.std.below.core.specs.declared.ops.ControlFlow.TheVariants.{Break}
use Rattle.vb_bits.specs.Bits.{bits, count, Selects}
use Rattle.vb_count.specs.Hits.{hits}
use Rattle.vb_select.specs.Searches.{Searched}
use Rattle.vb_bits.proofs.BytesLemmas.{bits_of_read_byte}
use Rattle.vb_bits.proofs.DigitsLemmas.{count-digits_below}
use Rattle.vb_count.proofs.HitsLemmas.{count-hits-bits-add}
use Rattle.vb_select.proofs.SearchesLemmas.{Searched_inside}
use Rattle.vb_select.proofs.SearchesLemmas.{Searched_after, Selects-digits_below}
use Rattle.vb_select.proofs.search.find_in_part.Given.{Over}
use Rattle.vb_select.proofs.search.find_in_part.Goals as goal
use Rattle.vb_select.proofs.search.find_in_part.Goals.{After-struct_known-then-search-here-1}

pub select_in_byte-requires : goal.select_in_byte-requires
select_in_byte-requires g c =
    let few : c.args.len ≤ 8 = omega (arith, c.requires.in_byte (omega arith)) in
    let wide : 2 ^ c.args.len ≤ 2 ^ 8 = pow_mono few in
    omega (
      arith,
      count-digits_below c.byte_part-part.result 8
          (omega (arith, wide, c.byte_part-part.ensures.clear)),
    )

-- a hit in the byte is a hit in the window
found : (g : Over) (c : After-struct_known-then-search-here-1 g)
    → Searched (hits c.args.search.value (bits
    (g.G.Glance.seen c.args.src.now).bytes c.args.search.offset (c.args.search.from + c.args.len)))
    (c.args.search.n + count (hits c.args.search.value
    (bits (g.G.Glance.seen c.args.src.now).bytes c.args.search.offset c.args.search.from)))
    (Break (c.args.search.from + c.select_in_byte.result))
found g c =
    let b : List ℕ = (g.G.Glance.seen c.args.src.now).bytes in
    let v : Bool = c.args.search.value in
    let at : ℕ = c.args.search.offset + c.args.search.from in
    let len : ℕ = c.args.len in
    let in_byte = c.requires.in_byte (omega arith) in let place : ℕ = c.select_in_byte.result in
    let sought = c.byte_part-part.ensures.digits
    ∙ ap (hits v) (bits_of_read_byte b c.byte.result at len c.byte.ensures.value in_byte) in
    let here = Selects-digits_below c.byte_part-part.result len 8 c.args.search.n place
    (omega arith) c.byte_part-part.ensures.clear c.select_in_byte.ensures in
    Searched_after v b c.args.search.offset c.args.search.from len _ c.args.search.n place refl
    (subst (λ l. Selects l c.args.search.n (Some place)) sought here)

pub overflow_add-result : goal.overflow_add-result
overflow_add-result g c = record {
  fits = omega (
    arith,
    Searched_inside c.args.search.value
        (g.G.Glance.seen c.args.src.now).bytes c.args.search.offset _ _ _ (found g c),
  );
}

pub returns-then-search-here-clause-found : goal.returns-then-search-here-clause-found
returns-then-search-here-clause-found g c = found g c

pub returns-else-search-here-clause-found : goal.returns-else-search-here-clause-found
returns-else-search-here-clause-found g c =
    let b : List ℕ = (g.G.Glance.seen c.args.src.now).bytes in
    let v : Bool = c.args.search.value in
    let at : ℕ = c.args.search.offset + c.args.search.from in
    let len : ℕ = c.args.len in
    let sought = c.byte_part-part.ensures.digits ∙ ap (hits v) (bits_of_read_byte
    b c.byte.result at len c.byte.ensures.value (c.requires.in_byte (omega arith))) in
    omega (
      arith,
      count-digits_below c.byte_part-part.result len c.byte_part-part.ensures.clear,
      ap count sought,
      count-hits-bits-add v b c.args.search.offset c.args.search.from len,
    )
