use Rattle.std.proofs.Common.{◌+◌, ◌*◌, ◌/◌, ◌%◌, ℕ, List, Bool, refl, arith, ◌∙◌}
use Rattle.std.below.core.specs.declared.ops.ControlFlow.TheVariants.{Continue, Break}
use Rattle.vb_bits.specs.Bits.{bits, count}
use Rattle.vb_count.specs.Hits.{hits}
use Rattle.vb_select.proofs.SearchesLemmas.{Searched_on, Searched_longer}
use Rattle.vb_select.proofs.search.find_in_rest.Goals as goal

pub returns-in_err-search-clause-found : goal.returns-in_err-search-clause-found
returns-in_err-search-clause-found g c =
    let b : List ℕ = (g.G.Glance.seen c.args.src.now).bytes in
    let v : Bool = c.args.search.value in
    let o : ℕ = c.args.search.offset in
    let from : ℕ = c.args.search.from in
    let len : ℕ = c.args.len in
    let n : ℕ = c.args.search.n + count (hits v (bits b o from)) in
    let place : ℕ = c.in_err-search.field-0.0 in
    rw c.from_residual.ensures (Searched_longer v b o (from + 8 * (8 * (len / 64))) (from + len) n
    place (omega arith) c.in_err-search.ensures.found)

pub returns-in_err-search-2-clause-found : goal.returns-in_err-search-2-clause-found
returns-in_err-search-2-clause-found g c =
    let b : List ℕ = (g.G.Glance.seen c.args.src.now).bytes in
    let v : Bool = c.args.search.value in
    let o : ℕ = c.args.search.offset in
    let from : ℕ = c.args.search.from in
    let len : ℕ = c.args.len in
    let n : ℕ = c.args.search.n + count (hits v (bits b o from)) in
    let place : ℕ = c.in_err-search-2.field-0.0 in
    let bytes : ℕ = from + len / 64 * 64 in let tail : ℕ = from + len / 8 * 8 in
    let after_words = Searched_on v b b o from (from + 8 * (8 * (len / 64))) bytes n c.args.search.n
    (Continue c.in_ok-search.field-0) refl (omega arith) refl c.in_ok-search.ensures.found in
    let found = Searched_on v b (g.G.Glance.seen c.find_in_units.new.src).bytes o bytes
    (bytes + 8 * (1 * (len % 64 / 8))) tail n c.in_ok-search.field-0
    (Break place) c.in_ok-search.ensures.looks.same
    (omega arith) after_words c.in_err-search-2.ensures.found in
    rw c.from_residual-in_err-search-2.ensures
    (Searched_longer v b o tail (from + len) n place (omega arith) found)

pub returns-clause-found : goal.returns-clause-found
returns-clause-found g c =
    let b : List ℕ = (g.G.Glance.seen c.args.src.now).bytes in
    let v : Bool = c.args.search.value in
    let o : ℕ = c.args.search.offset in
    let from : ℕ = c.args.search.from in
    let len : ℕ = c.args.len in
    let n : ℕ = c.args.search.n + count (hits v (bits b o from)) in
    let bytes : ℕ = from + len / 64 * 64 in let tail : ℕ = from + len / 8 * 8 in
    let after_words = Searched_on v b b o from (from + 8 * (8 * (len / 64))) bytes n c.args.search.n
    (Continue c.in_ok-search.field-0) refl (omega arith) refl c.in_ok-search.ensures.found in
    let after_bytes = Searched_on v b (g.G.Glance.seen c.find_in_units.new.src).bytes o bytes
    (bytes + 8 * (1 * (len % 64 / 8))) tail n c.in_ok-search.field-0
    (Continue c.in_ok-search-2.field-0) c.in_ok-search.ensures.looks.same
    (omega arith) after_words c.in_ok-search-2.ensures.found in
    Searched_on v b (g.G.Glance.seen c.find_in_units-2.new.src).bytes o tail (tail + len % 8) (from
    + len) n c.in_ok-search-2.field-0 c.find_in_part.result (c.in_ok-search-2.ensures.looks.same
    ∙ c.in_ok-search.ensures.looks.same) (omega arith) after_bytes c.find_in_part.ensures.found
