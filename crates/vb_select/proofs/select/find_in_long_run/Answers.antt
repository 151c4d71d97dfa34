use Rattle.std.proofs.Common.{◌≡◌, ◌+◌, ◌*◌, ℕ, List, Bool, refl, arith, ◌∙◌}
use Rattle.std.below.core.specs.declared.ops.ControlFlow.TheVariants.{Continue}
use Rattle.vb_bits.specs.Bits.{bits, count}
use Rattle.vb_count.specs.Hits.{hits}
use Rattle.vb_select.proofs.SearchesLemmas.{Searched_on, Searched_longer, Searched_front}
use Rattle.vb_count.proofs.HitsLemmas.{count-hits-bits-add, count-hits-bits_split}
use Rattle.vb_select.proofs.select.find_in_long_run.Goals as goal

pub returns-in_err-search-clause-found : goal.returns-in_err-search-clause-found
returns-in_err-search-clause-found g c =
    let b : List ℕ = (g.G.Glance.seen c.args.src.now).bytes in
    let v : Bool = c.args.search.value in
    let o : ℕ = c.args.search.offset in
    let from : ℕ = c.args.search.from in
    rw c.from_residual.ensures (Searched_longer v b o (from + 8 * (64 * c.min-first.result))
    (from + 512 * c.args.chunks) (c.args.search.n + count (hits v (bits b o from)))
    c.in_err-search.field-0.0 (omega arith) c.in_err-search.ensures.found)

pub returns-clause-found : goal.returns-clause-found
returns-clause-found g c =
    let b : List ℕ = (g.G.Glance.seen c.args.src.now).bytes in
    let v : Bool = c.args.search.value in
    let o : ℕ = c.args.search.offset in
    let from : ℕ = c.args.search.from in
    let first : ℕ = c.min-first.result in
    let passed : ℕ = c.narrow-stretch.result.passed in
    let left : ℕ = c.narrow-stretch.result.left in
    let k : ℕ = 512 * c.narrow-stretch.result.chunks in
    let at : ℕ = from + 512 * first in
    let begin : ℕ = at + 512 * passed in
    let n : ℕ = c.args.search.n + count (hits v (bits b o from)) in
    let after_first = Searched_on v b b o from (from + 8 * (64 * first)) at n c.args.search.n
    (Continue c.in_ok-search.field-0) refl (omega arith) refl c.in_ok-search.ensures.found in
    let same = c.in_ok-search.ensures.looks.same in
    let after : n ≡ left + count (hits v (bits b o begin)) = omega (
      arith,
      after_first,
      rw same at c.narrow-stretch.ensures.passed,
      count-hits-bits-add v b o at (512 * passed),
    ) in
    let found = Searched_on v b (g.G.Glance.seen c.narrow-stretch.new.src).bytes o begin
    (begin + 8 * (64 * c.narrow-stretch.result.chunks)) (begin + k) n left c.find_in_units-2.result
    (c.narrow-stretch.ensures.looks.same ∙ same) (omega arith) after
    c.find_in_units-2.ensures.found in
    Searched_front v b o (begin + k) (from + 512 * c.args.chunks) n c.find_in_units-2.result
    (omega arith) (λ short. omega (
      arith,
      after,
      rw same at c.narrow-stretch.ensures.held (omega arith),
      count-hits-bits_split v b o begin (begin + k) (o + at + 512 * passed) k
          (omega arith) (omega arith),
    )) found
