use Rattle.std.proofs.Common.{rules, arith, ◌≡◌, ◌+◌, ◌-◌, ◌%◌, ◌^◌, ◌<◌, true, refl, sym, zero-add}
use Rattle.vb_pack.proofs.AnswersLemmas.{Answers-from, Answers-keeps, CanAsk_always}
use Rattle.vb_set_tests.proofs.alternate.asked.Goals as goal

pub collect_bool_bytes-requires-clause-callable : goal.collect_bool_bytes-requires-clause-callable
collect_bool_bytes-requires-clause-callable c = CanAsk_always _ _ (λ p k. search rules) _ _

pub returns : goal.returns
returns c =
    let counted = Answers-from _ (λ k p. p.0.now ≡ k) (λ k. true) 0 c.args.len
    (λ k p b q h same said.
    let value : b ≡ true = search rules in
    let next : q.0.now ≡ (p.0.now + 1) % 2 ^ 64 = search rules in
    let small : k < 2 ^ 64 - 1 = omega arith in
    (value, omega arith))
    _ _ _ refl c.collect_bool_bytes.ensures.answered in
    let named = Answers-keeps _ (λ p. p.0.ghost_name)
    (λ p k b q said. search rules) _ _ _ _ c.collect_bool_bytes.ensures.answered in
    let same = sym named in
    let all : _ ≡ 0 + c.args.len = counted.1 in
    let end : 0 + c.args.len ≡ c.args.len = zero-add c.args.len in
    search rules
