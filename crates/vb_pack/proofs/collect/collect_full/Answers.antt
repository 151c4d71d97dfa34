use Rattle.std.proofs.Common.{arith, of_calls, ◌≡◌, ℕ, ◌+◌, ◌-◌, [], ◌∷◌, ◌++◌, take, set}
use Rattle.std.proofs.Common.{length-set, subst, refl, sym, ap, ◌∙◌}
use Rattle.std.proofs.Math.Seq.{take-length}
use Rattle.std.proofs.lemmas.Grind.{take-set_at}
use Rattle.vb_pack.specs.Asked.{Answers, span}
use Rattle.vb_pack.specs.Digits.{digits}
use Rattle.vb_pack.proofs.AnswersLemmas.{Answers_none, Answers-push, CanAsk_next, CanAsk_after}
use Rattle.vb_pack.proofs.collect.collect_full.Goals as goal

pub loop-i-init : goal.loop-i-init
loop-i-init g c =
    let here : c.args.base + 0 ≡ c.args.base = omega arith in
    record {
      long = refl;
      callable = rw here c.requires.callable;
      answered = Answers_none (goal.F-step g) c.args.base c.args.f.now;
    }

pub f-requires : goal.f-requires
f-requires g c =
    let may : goal.F-pre g c.loop-i.f (c.args.base + c.loop-i.i) = CanAsk_next (goal.F-step g)
    (goal.F-pre g) _ (64 - c.loop-i.i) _ (omega arith) c.loop-i.invariant.callable in
    search of_calls

pub loop-i-preserved : goal.loop-i-preserved
loop-i-preserved g c =
    let i : ℕ = c.loop-i.i in
    let inv = c.loop-i.invariant in
    let one_more : take (i + 1) (set c.loop-i.bools i c.f.result)
    ≡ take i c.loop-i.bools ++ c.f.result ∷ [] =
    take-set_at c.loop-i.bools i (i + 1) c.f.result refl (omega (arith, inv.long)) in
    record {
      long = simp length-set inv.long;
      callable = CanAsk_after (goal.F-step g) (goal.F-pre g) (c.args.base + i) _
          (64 - i) _ _ c.f.result _ (omega arith) (omega arith) inv.callable c.f.ensures;
      answered = rw one_more (Answers-push (goal.F-step g) c.args.base i _ _ _ _ c.f.result _
          (omega arith) inv.answered c.f.ensures);
    }

pub returns : goal.returns
returns g c =
    let inv = c.loop-i.invariant in
    let end : c.loop-i.i ≡ 64 = omega arith in
    let all : take c.loop-i.i c.loop-i.bools ≡ digits c.pack.result 0 64 =
    ap (λ n. take n c.loop-i.bools) (end ∙ sym inv.long)
    ∙ take-length c.loop-i.bools ∙ sym c.pack.ensures in
    subst (λ n. Answers (goal.F-step g) c.args.f.now (span c.args.base n)
    (digits c.pack.result 0 64) c.loop-i.f) end
    (subst (λ l. Answers (goal.F-step g) c.args.f.now (span c.args.base c.loop-i.i) l c.loop-i.f)
    all inv.answered)
