use Rattle.std.proofs.Common.{◌≡◌, ◌+◌, ◌*◌, ℕ, List, Bool, refl, arith, ◌∙◌}
use Rattle.std.below.core.specs.declared.ops.ControlFlow.TheVariants.{Continue, Break}
use Rattle.vb_bits.specs.Bits.{bits, count}
use Rattle.vb_count.specs.Hits.{hits}
use Rattle.vb_count.proofs.HitsLemmas.{count-hits-bits_none}
use Rattle.vb_select.proofs.SearchesLemmas.{Searched_on, Searched_longer}
use Rattle.vb_select.proofs.select.find.Goals as goal

pub returns-in_err-search-clause-found : goal.returns-in_err-search-clause-found
returns-in_err-search-clause-found g c =
    let b : List ℕ = (g.G.Glance.seen c.args.src.now).bytes in
    let v : Bool = c.args.value in
    let o : ℕ = c.args.offset in
    let n : ℕ = c.args.n in
    let head : ℕ = c.of-parts.result.head in let place : ℕ = c.in_err-search.field-0.0 in
    let all : n ≡ n + count (hits v (bits b o 0)) =
    omega (arith, count-hits-bits_none v b o) in
    let found = Searched_on v b b o 0 (0 + head) head n n (Break place) refl
    (omega arith) all c.in_err-search.ensures.found in
    rw c.from_residual.ensures (Searched_longer v b o head c.args.len n place (omega arith) found)

pub returns-in_err-search-2-clause-found : goal.returns-in_err-search-2-clause-found
returns-in_err-search-2-clause-found g c =
    let b : List ℕ = (g.G.Glance.seen c.args.src.now).bytes in
    let v : Bool = c.args.value in
    let o : ℕ = c.args.offset in
    let n : ℕ = c.args.n in
    let head : ℕ = c.of-parts.result.head in
    let chunks : ℕ = c.of-parts.result.chunks in
    let place : ℕ = c.in_err-search-2.field-0.0 in
    let all : n ≡ n + count (hits v (bits b o 0)) =
    omega (arith, count-hits-bits_none v b o) in
    let after_head = Searched_on v b b o 0 (0 + head) head n n
    (Continue c.in_ok-search.field-0) refl (omega arith) all c.in_ok-search.ensures.found in
    let found = Searched_on v b (g.G.Glance.seen c.find_in_part.new.src).bytes o head
    (head + 512 * chunks) (head + 512 * chunks) n c.in_ok-search.field-0 (Break place)
    c.in_ok-search.ensures.looks.same refl after_head c.in_err-search-2.ensures.found in
    rw c.from_residual-in_err-search-2.ensures
    (Searched_longer v b o (head + 512 * chunks) c.args.len n place (omega arith) found)

pub returns-clause-found : goal.returns-clause-found
returns-clause-found g c =
    let b : List ℕ = (g.G.Glance.seen c.args.src.now).bytes in
    let v : Bool = c.args.value in
    let o : ℕ = c.args.offset in
    let n : ℕ = c.args.n in
    let head : ℕ = c.of-parts.result.head in
    let chunks : ℕ = c.of-parts.result.chunks in
    let rest : ℕ = head + 512 * chunks in
    let all : n ≡ n + count (hits v (bits b o 0)) =
    omega (arith, count-hits-bits_none v b o) in
    let after_head = Searched_on v b b o 0 (0 + head) head n n
    (Continue c.in_ok-search.field-0) refl (omega arith) all c.in_ok-search.ensures.found in
    let after_chunks = Searched_on v b (g.G.Glance.seen c.find_in_part.new.src).bytes
    o head rest rest n c.in_ok-search.field-0 (Continue c.in_ok-search-2.field-0)
    c.in_ok-search.ensures.looks.same refl after_head c.in_ok-search-2.ensures.found in
    Searched_on v b (g.G.Glance.seen c.find_in_chunks.new.src).bytes o rest
    (rest + c.of-parts.result.rest) c.args.len n c.in_ok-search-2.field-0 c.find_in_rest.result
    (c.in_ok-search-2.ensures.looks.same ∙ c.in_ok-search.ensures.looks.same) (omega arith)
    after_chunks c.find_in_rest.ensures.found
