use Rattle.std.proofs.Common.{arith, of_calls, ◌≡◌, ℕ, ◌+◌, ◌-◌, ◌<◌, subst, lit<}
use mir.Val.{bool_byte}
use Rattle.vb_bits.proofs.DigitsLemmas.{digits_none}
use Rattle.vb_pack.specs.Asked.{Answers, span}
use Rattle.vb_pack.specs.Digits.{digits}
use Rattle.vb_pack.proofs.AnswersLemmas.{Answers_none, Answers-push, CanAsk_next, CanAsk_after}
use Rattle.vb_bits.proofs.PackedLemmas.{digits_packed, packed_below}
use Rattle.vb_pack.proofs.collect.collect_part.Goals as goal

pub loop-i-init : goal.loop-i-init
loop-i-init g c =
    let here : c.args.base + 0 ≡ c.args.base = omega arith in
    let all : c.args.len - 0 ≡ c.args.len = omega arith in
    record {
      callable = rw (here, all) c.requires.callable;
      answered = rw digits_none (Answers_none (goal.F-step g) c.args.base c.args.f.now);
      clear = lit< tt;
    }

pub f-requires : goal.f-requires
f-requires g c =
    let may : goal.F-pre g c.loop-i.f (c.args.base + c.loop-i.i) = CanAsk_next (goal.F-step g)
    (goal.F-pre g) _ (c.args.len - c.loop-i.i) _ (omega arith) c.loop-i.invariant.callable in
    search of_calls

pub loop-i-preserved : goal.loop-i-preserved
loop-i-preserved g c =
    let i : ℕ = c.loop-i.i in
    let inv = c.loop-i.invariant in
    let within : i < 64 = omega arith in
    let bit : c.from.result ≡ bool_byte c.f.result = c.from.ensures in
    record {
      callable = CanAsk_after (goal.F-step g) (goal.F-pre g) (c.args.base + i) _
          (c.args.len - i) _ _ c.f.result _ (omega arith) (omega arith) inv.callable c.f.ensures;
      answered = rw (bit, digits_packed c.loop-i.packed i c.f.result within inv.clear)
          (Answers-push (goal.F-step g) c.args.base i _ _ _ _ c.f.result _
          (omega arith) inv.answered c.f.ensures);
      clear = rw bit (packed_below c.loop-i.packed i c.f.result within inv.clear);
    }

pub returns-clause-answered : goal.returns-clause-answered
returns-clause-answered g c =
    let end : c.loop-i.i ≡ c.args.len = omega arith in
    subst (λ n. Answers (goal.F-step g) c.args.f.now (span c.args.base n)
    (digits c.loop-i.packed 0 n) c.loop-i.f) end c.loop-i.invariant.answered
