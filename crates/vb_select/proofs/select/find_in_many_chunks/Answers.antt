use Rattle.std.proofs.Common.{◌≡◌, ◌+◌, ◌-◌, ◌*◌, ℕ, List, Bool, arith}
use Rattle.vb_bits.specs.Bits.{bits, count}
use Rattle.vb_count.specs.Hits.{hits}
use Rattle.vb_count.proofs.HitsLemmas.{count-hits-bits-add}
use Rattle.vb_select.proofs.SearchesLemmas.{Searched_on}
use Rattle.vb_select.proofs.select.find_in_many_chunks.Goals as goal

pub returns-clause-found : goal.returns-clause-found
returns-clause-found g c =
    let b : List ℕ = (g.G.Glance.seen c.args.src.now).bytes in
    let v : Bool = c.args.search.value in
    let o : ℕ = c.args.search.offset in
    let from : ℕ = c.args.search.from in
    let passed : ℕ = c.pass_chunks-passed.result.0 in
    let left : ℕ = c.pass_chunks-passed.result.1 in
    let chunks : ℕ = c.args.chunks in
    let others : ℕ = from + 512 * passed in
    let n : ℕ = c.args.search.n + count (hits v (bits b o from)) in
    let after : n ≡ left + count (hits v (bits b o others)) = omega (
      arith,
      c.pass_chunks-passed.ensures.passed,
      count-hits-bits-add v b o from (512 * passed),
    ) in
    Searched_on v b (g.G.Glance.seen c.pass_chunks-passed.new.src).bytes o others
    (others + 8 * (64 * (chunks - passed))) (from + 512 * chunks) n left c.find_in_units.result
    c.pass_chunks-passed.ensures.looks.same (omega arith) after c.find_in_units.ensures.found
