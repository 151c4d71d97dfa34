use Rattle.std.proofs.Common.{rules, arith, ◌≡◌, ◌==◌, ℕ, ◌%◌, ◌+◌, not, refl, ap, ◌∙◌}
use Rattle.std.proofs.lemmas.Grind.{common_steps}
use Rattle.vb_pack.proofs.AnswersLemmas.{Answers-from, CanAsk_always}
use Rattle.vb_set_tests.proofs.alternate.alternating.Goals as goal

even_turns : (k : ℕ) → not (k % 2 == 0) ≡ ((k + 1) % 2 == 0)
even_turns k = grind (arith, common_steps)

pub collect_bool_bytes-requires-clause-callable : goal.collect_bool_bytes-requires-clause-callable
collect_bool_bytes-requires-clause-callable c = CanAsk_always _ _ (λ p k. search rules) _ _

pub returns : goal.returns
returns c =
    let told = Answers-from _ (λ k p. p.0.now ≡ (k % 2 == 0)) (λ k. k % 2 == 0) 0 c.args.len
    (λ k p b q h same said.
    let value : b ≡ p.0.now = search rules in
    let next : q.0.now ≡ not p.0.now = search rules in
    (value ∙ same, next ∙ ap not same ∙ even_turns k))
    _ _ _ refl c.collect_bool_bytes.ensures.answered in
    told.0
