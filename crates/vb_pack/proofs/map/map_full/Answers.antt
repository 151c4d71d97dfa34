use Rattle.std.proofs.Common.{arith, of_calls, ◌≡◌, ℕ, ◌+◌, ◌-◌, ◌*◌, ◌/◌, ◌%◌, [], ◌∷◌, ◌++◌}
use Rattle.std.proofs.Common.{take, set, length-set, subst, refl, sym, ap, ◌∙◌}
use Rattle.std.proofs.Math.Seq.{take-length}
use Rattle.std.proofs.lemmas.Grind.{take-set_at}
use Rattle.vb_pack.specs.Asked.{Answers, span}
use Rattle.vb_bits.proofs.ReadLemmas.{has_bit-bits}
use Rattle.vb_pack.specs.Bits.{bit_of}
use Rattle.vb_pack.specs.Digits.{digits}
use Rattle.vb_pack.proofs.AnswersLemmas.{Answers_none, Answers-push, CanAsk_next, CanAsk_after}
use Rattle.vb_pack.proofs.map.map_full.Goals as goal

pub loop-i-init : goal.loop-i-init
loop-i-init g c =
    let here : c.args.base + 0 ≡ c.args.base = omega arith in
    record {
      long = refl;
      callable = rw here c.requires.callable;
      answered = Answers_none (λ p i b q. goal.F-step g p i
          (bit_of c.args.src.now (c.args.offset + i)) b q) c.args.base c.args.f.now;
    }

pub f-requires : goal.f-requires
f-requires g c =
    let i : ℕ = c.loop-i.i in let place : ℕ = c.args.base + i in
    let at : ℕ = c.args.offset + c.args.base in
    let from : 8 * (at / 8) + at % 8 + i ≡ c.args.offset + place = omega arith in
    let bit : c.digit.result ≡ bit_of c.args.src.now (c.args.offset + place) =
    c.digit.ensures ∙ has_bit-bits c.args.src.now c.full_word-word.result
    (8 * (at / 8) + at % 8) 64 i c.full_word-word.ensures (omega arith)
    ∙ ap (bit_of c.args.src.now) from in
    let may : goal.F-pre g c.loop-i.f place c.digit.result =
    subst (goal.F-pre g c.loop-i.f place) (sym bit)
    (CanAsk_next (λ p i b q. goal.F-step g p i (bit_of c.args.src.now (c.args.offset + i)) b q)
    (λ p i. goal.F-pre g p i (bit_of c.args.src.now (c.args.offset + i))) place
    (64 - i) c.loop-i.f (omega arith) c.loop-i.invariant.callable) in
    search of_calls

pub loop-i-preserved : goal.loop-i-preserved
loop-i-preserved g c =
    let i : ℕ = c.loop-i.i in let place : ℕ = c.args.base + i in
    let at : ℕ = c.args.offset + c.args.base in
    let from : 8 * (at / 8) + at % 8 + i ≡ c.args.offset + place = omega arith in
    let lit : c.digit.result ≡ bit_of c.args.src.now (c.args.offset + place) =
    c.digit.ensures ∙ has_bit-bits c.args.src.now c.full_word-word.result
    (8 * (at / 8) + at % 8) 64 i c.full_word-word.ensures (omega arith)
    ∙ ap (bit_of c.args.src.now) from in
    let said =
    subst (λ x. goal.F-step g c.loop-i.f place x c.f.result c.f.new.self) lit c.f.ensures in
    let inv = c.loop-i.invariant in
    let one_more : take (i + 1) (set c.loop-i.bools i c.f.result)
    ≡ take i c.loop-i.bools ++ c.f.result ∷ [] =
    take-set_at c.loop-i.bools i (i + 1) c.f.result refl (omega (arith, inv.long)) in
    record {
      long = simp length-set inv.long;
      callable =
          CanAsk_after (λ p i b q. goal.F-step g p i (bit_of c.args.src.now (c.args.offset + i)) b
          q) (λ p i. goal.F-pre g p i (bit_of c.args.src.now (c.args.offset + i))) (c.args.base + i)
          _ (64 - i) _ _ c.f.result _ (omega arith) (omega arith) inv.callable said;
      answered = rw one_more (Answers-push
          (λ p i b q. goal.F-step g p i (bit_of c.args.src.now (c.args.offset + i)) b q) c.args.base
          i _ _ _ _ c.f.result _ (omega arith) inv.answered said);
    }

pub returns : goal.returns
returns g c =
    let inv = c.loop-i.invariant in
    let end : c.loop-i.i ≡ 64 = omega arith in
    let all : take c.loop-i.i c.loop-i.bools ≡ digits c.pack_bool_word_lanes.result 0 64 =
    ap (λ n. take n c.loop-i.bools) (end ∙ sym inv.long) ∙ take-length c.loop-i.bools
    ∙ sym c.pack_bool_word_lanes.ensures in
    subst (λ n. Answers
    (λ p i b q. goal.F-step g p i (bit_of c.args.src.now (c.args.offset + i)) b q) c.args.f.now
    (span c.args.base n) (digits c.pack_bool_word_lanes.result 0 64) c.loop-i.f) end
    (subst (λ l. Answers (λ p i b q. goal.F-step g p i (bit_of c.args.src.now (c.args.offset + i)) b
    q) c.args.f.now (span c.args.base c.loop-i.i) l c.loop-i.f) all inv.answered)
