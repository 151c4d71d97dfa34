use Rattle.std.proofs.Common.{◌≡◌, ℕ, ◌+◌, ◌-◌, ◌<◌, ◌≤◌, inl, inr, None}
use Rattle.std.proofs.Common.{drop, sym, ap, ◌∙◌, arith}
use Rattle.std.proofs.lemmas.Bool.{cases_lt, false≢true}
use Rattle.vb_take.proofs.ValueBlocksLemmas.{full_digits, named_here}
use Rattle.vb_take.proofs.take_values.put_full.Goals as goal

pub returns-in-None-clause-past : goal.returns-in-None-clause-past
returns-in-None-clause-past g c =
    let a : ℕ = c.args.at in
    let p : ℕ = c.loop-position.position in
    let out = c.loop-position.out in
    let inv = c.loop-position.invariant in
    let from : a ≤ p = omega arith in
    let within : p < a + 64 = omega arith in
    let place : a + (p - a) ≡ p = omega arith in
    record {
      from = from;
      within = within;
      counts = full_digits (p - a) (omega arith);
      past = named_here g.I.BitIndex.number g.T.Element.zero c.args.values.now c.args.indices.now p
          c.index-indices-position.result None (omega (arith, c.requires.inside))
          c.index-indices-position.is
          (sym c.in-None.is ∙ c.value_named.ensures);
      put = record {
        put = λ k h on. inv.put (a + k) (omega arith) (omega arith);
        kept = λ i h off. elim (cases_lt i a) [
          | inl low ↦ inv.before i low
          | inr high ↦ absurd (false≢true (sym (off high) ∙ full_digits (i - a) (omega arith)))
        ];
        behind = ap (λ j. drop j out) place ∙ inv.behind
            ∙ ap (λ j. drop j c.args.out.now) (sym place);
      };
    }

pub returns-clause-put : goal.returns-clause-put
returns-clause-put g c =
    let a : ℕ = c.args.at in
    let out = c.loop-position.out in
    let inv = c.loop-position.invariant in
    let end : c.loop-position.position ≡ a + 64 = omega arith in
    record {
      put = λ k h on. inv.put (a + k) (omega arith) (omega arith);
      kept = λ i h off. elim (cases_lt i a) [
        | inl low ↦ inv.before i low
        | inr high ↦ absurd (false≢true (sym (off high) ∙ full_digits (i - a) (omega arith)))
      ];
      behind = ap (λ j. drop j out) (sym end) ∙ inv.behind
          ∙ ap (λ j. drop j c.args.out.now) end;
    }
