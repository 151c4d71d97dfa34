use Rattle.std.proofs.Common.{inl, inr, ℕ, ◌*◌, ap, ◌∙◌, sym, arith}
use Rattle.std.proofs.lemmas.Bool.{cases_lt, eqb-true, eq-eqb}
use Rattle.vb_bits.specs.Bits.{bits, count}
use Rattle.vb_count.specs.Hits.{hits}
use Rattle.vb_count.proofs.HitsLemmas.{count-hits-bits_none}
use Rattle.vb_select.proofs.next.are_without.Goals as goal

pub pass_groups-eights-requires-clause-none : goal.pass_groups-eights-requires-clause-none
pass_groups-eights-requires-clause-none c =
    count-hits-bits_none c.args.value c.args.bytes.now (8 * c.args.at)

pub returns : goal.returns
returns c =
    let b = c.args.bytes.now in let v = c.args.value in
    let a : ℕ = 8 * c.args.at in let n : ℕ = c.args.n in
    let ones = c.pass_groups-ones in (
      λ t. ap (λ k. count (hits v (bits b a (64 * k)))) (sym (eqb-true ones.result n t))
          ∙ ones.ensures.none,
      λ none. eq-eqb ones.result n (elim (cases_lt ones.result n) [
        | inl less ↦ absurd (omega (arith, none, ones.ensures.found (omega arith)))
        | inr all ↦ omega (arith, ones.ensures.within)
      ]),
    )
