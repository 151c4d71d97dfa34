use Rattle.std.proofs.Common.{arith, of_calls, ◌≡◌, ℕ, ◌+◌, ◌-◌, ◌<◌, subst, sym, ap, ◌∙◌, lit<}
use mir.Val.{bool_byte}
use Rattle.vb_bits.proofs.DigitsLemmas.{digits_none}
use Rattle.vb_pack.specs.Asked.{Answers, span}
use Rattle.vb_bits.proofs.ReadLemmas.{has_bit-bits}
use Rattle.vb_pack.specs.Bits.{bit_of}
use Rattle.vb_pack.specs.Digits.{digits}
use Rattle.vb_pack.proofs.AnswersLemmas.{Answers_none, Answers-push, CanAsk_next, CanAsk_after}
use Rattle.vb_bits.proofs.PackedLemmas.{digits_packed, packed_below}
use Rattle.vb_pack.proofs.map.map_part.Goals as goal

pub loop-i-init : goal.loop-i-init
loop-i-init g c =
    let here : c.args.base + 0 ≡ c.args.base = omega arith in
    let all : c.args.len - 0 ≡ c.args.len = omega arith in
    record {
      callable = rw (here, all) c.requires.callable;
      answered = rw digits_none (Answers_none (λ p i b q. goal.F-step g p i
          (bit_of c.args.src.now (c.args.offset + i)) b q) c.args.base c.args.f.now);
      clear = lit< tt;
    }

pub f-requires : goal.f-requires
f-requires g c =
    let i : ℕ = c.loop-i.i in let place : ℕ = c.args.base + i in
    let from : c.args.offset + c.args.base + i ≡ c.args.offset + place = omega arith in
    let bit : c.digit.result ≡ bit_of c.args.src.now (c.args.offset + place) =
    c.digit.ensures ∙ has_bit-bits c.args.src.now c.read_bits-word.result
    (c.args.offset + c.args.base) c.args.len i c.read_bits-word.ensures.digits (omega arith)
    ∙ ap (bit_of c.args.src.now) from in
    let may : goal.F-pre g c.loop-i.f place c.digit.result =
    subst (goal.F-pre g c.loop-i.f place) (sym bit)
    (CanAsk_next (λ p i b q. goal.F-step g p i (bit_of c.args.src.now (c.args.offset + i)) b q)
    (λ p i. goal.F-pre g p i (bit_of c.args.src.now (c.args.offset + i))) place
    (c.args.len - i) c.loop-i.f (omega arith) c.loop-i.invariant.callable) in
    search of_calls

pub loop-i-preserved : goal.loop-i-preserved
loop-i-preserved g c =
    let i : ℕ = c.loop-i.i in let place : ℕ = c.args.base + i in
    let from : c.args.offset + c.args.base + i ≡ c.args.offset + place = omega arith in
    let lit : c.digit.result ≡ bit_of c.args.src.now (c.args.offset + place) =
    c.digit.ensures ∙ has_bit-bits c.args.src.now c.read_bits-word.result
    (c.args.offset + c.args.base) c.args.len i c.read_bits-word.ensures.digits (omega arith)
    ∙ ap (bit_of c.args.src.now) from in
    let said =
    subst (λ x. goal.F-step g c.loop-i.f place x c.f.result c.f.new.self) lit c.f.ensures in
    let inv = c.loop-i.invariant in
    let within : i < 64 = omega arith in
    let bit : c.from.result ≡ bool_byte c.f.result = c.from.ensures in
    record {
      callable =
          CanAsk_after (λ p i b q. goal.F-step g p i (bit_of c.args.src.now (c.args.offset + i)) b
          q) (λ p i. goal.F-pre g p i (bit_of c.args.src.now (c.args.offset + i))) (c.args.base + i)
          _ (c.args.len - i) _ _ c.f.result _ (omega arith) (omega arith) inv.callable said;
      answered = rw (bit, digits_packed c.loop-i.packed i c.f.result within inv.clear)
          (Answers-push (λ p i b q. goal.F-step g p i (bit_of c.args.src.now (c.args.offset + i)) b
          q) c.args.base i _ _ _ _ c.f.result _ (omega arith) inv.answered said);
      clear = rw bit (packed_below c.loop-i.packed i c.f.result within inv.clear);
    }

pub returns-clause-answered : goal.returns-clause-answered
returns-clause-answered g c =
    let end : c.loop-i.i ≡ c.args.len = omega arith in
    subst (λ n. Answers (λ p i b q. goal.F-step g p i (bit_of c.args.src.now (c.args.offset + i)) b
    q) c.args.f.now (span c.args.base n) (digits c.loop-i.packed 0 n) c.loop-i.f)
    end c.loop-i.invariant.answered
