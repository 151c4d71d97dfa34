use Rattle.std.proofs.Common.{arith, ◌≡◌, ℕ, ◌+◌, ◌-◌, ◌*◌, ◌/◌, ◌%◌, ◌^◌, ◌<◌, ◌≤◌, inl, inr}
use Rattle.std.proofs.Common.{length, subst, sym, ◌∙◌, zero-add}
use Rattle.std.proofs.lemmas.Bool.{cases_lt}
use Rattle.std.proofs.Math.Pow.{pow_mono}
use Rattle.vb_bits.proofs.DigitsLemmas.{length-digits}
use Rattle.vb_pack.specs.Asked.{Answers, CanAsk, span}
use Rattle.vb_pack.specs.Digits.{digits}
use Rattle.vb_pack.specs.WordBits.{WritesWords, word_bits}
use Rattle.vb_pack.proofs.AnswersLemmas.{Answers_none, Answers-add, CanAsk-first, CanAsk-rest}
use Rattle.vb_pack.proofs.WordsLemmas.{length-word_bits, word_bits_none, WritesWords_none}
use Rattle.vb_pack.proofs.WordsLemmas.{WritesWords-more, WritesWords-ended, WritesWords-less}
use Rattle.vb_pack.proofs.words.pack_bools_into_words.Goals as goal

pub loop-k-init : goal.loop-k-init
loop-k-init g c =
    let all : c.args.len - 0 ≡ c.args.len = omega arith in
    record {
      callable = rw all c.requires.callable;
      answered = rw word_bits_none (Answers_none (goal.F-step g) 0 c.args.f.now);
      written = WritesWords_none c.args.words.now c.args.at _
          (length-word_bits c.args.words.now c.args.at 0);
    }

pub collect_full-word-requires-clause-callable : goal.collect_full-word-requires-clause-callable
collect_full-word-requires-clause-callable g c =
    CanAsk-first (goal.F-step g) (goal.F-pre g) (64 * c.loop-k.k) 64 (c.args.len - 64 * c.loop-k.k)
    (c.args.len - 64 * c.loop-k.k - 64) c.loop-k.f (omega arith) c.loop-k.invariant.callable

pub splice_word_at_bit-requires-clause-clear : goal.splice_word_at_bit-requires-clause-clear
splice_word_at_bit-requires-clause-clear g c = λ i h.
    c.loop-k.invariant.written.others i
    (inr (omega (arith, length-word_bits c.loop-k.words c.args.at (64 * c.loop-k.k))))
    ∙ c.requires.clear i (omega arith)

pub loop-k-preserved : goal.loop-k-preserved
loop-k-preserved g c =
    let k : ℕ = c.loop-k.k in let w = c.collect_full-word.result in
    let inv = c.loop-k.invariant in
    let next : 64 * (k + 1) ≡ 64 * k + 64 = omega arith in
    let more = WritesWords-more _ c.loop-k.words c.splice_word_at_bit.new.words c.args.at
    (c.args.at + 64 * k) (64 * k) 64 (64 * (k + 1)) (digits w 0 64)
    (omega arith) (length-digits w 0 64) next inv.written c.splice_word_at_bit.ensures in
    record {
      callable = CanAsk-rest (goal.F-step g) (goal.F-pre g) (64 * k) (64 * (k + 1)) 64
          (c.args.len - 64 * k) (c.args.len - 64 * (k + 1)) c.loop-k.f (digits w 0 64)
          c.collect_full-word.new.f (omega arith) next inv.callable c.collect_full-word.ensures;
      answered = subst (λ l. Answers (goal.F-step g) c.args.f.now
          (span 0 (64 * (k + 1))) l c.collect_full-word.new.f) (sym more.0)
          (Answers-add (goal.F-step g) 0 (64 * k) (64 * k) 64
          (64 * (k + 1)) _ _ c.loop-k.f (digits w 0 64) c.collect_full-word.new.f
          (sym (zero-add (64 * k))) next inv.answered c.collect_full-word.ensures);
      written = more.1;
    }

pub collect_part-word-requires-clause-callable : goal.collect_part-word-requires-clause-callable
collect_part-word-requires-clause-callable g c =
    let from : 64 * c.loop-k.k ≡ 64 * (c.args.len / 64) = omega arith in
    let rest : c.args.len - 64 * c.loop-k.k ≡ c.args.len % 64 = omega arith in
    subst (λ a. CanAsk (goal.F-pre g) (goal.F-step g) c.loop-k.f (span a (c.args.len % 64))) from
    (subst (λ n. CanAsk (goal.F-pre g) (goal.F-step g) c.loop-k.f (span (64 * c.loop-k.k) n))
    rest c.loop-k.invariant.callable)

pub splice_word_at_bit-requires-then-rest-ne0-clause-room
    : goal.splice_word_at_bit-requires-then-rest-ne0-clause-room
splice_word_at_bit-requires-then-rest-ne0-clause-room g c =
    let at : ℕ = c.args.at + 64 * (c.args.len / 64) in let rest : ℕ = c.args.len % 64 in
    let room : c.args.at + c.args.len ≤ 64 * length c.loop-k.words = omega arith in
    elim (cases_lt (64 - at % 64) rest) [
      | inl past ↦ inr (omega arith)
      | inr fits ↦
          let small : 2 ^ rest ≤ 2 ^ (64 - at % 64) = pow_mono fits in
          let few : c.collect_part-word.result < 2 ^ rest = c.collect_part-word.ensures.clear in
          inl (omega arith)
    ]

pub splice_word_at_bit-requires-then-rest-ne0-clause-clear
    : goal.splice_word_at_bit-requires-then-rest-ne0-clause-clear
splice_word_at_bit-requires-then-rest-ne0-clause-clear g c = λ i h.
    c.loop-k.invariant.written.others i
    (inr (omega (arith, length-word_bits c.loop-k.words c.args.at (64 * c.loop-k.k))))
    ∙ c.requires.clear i (omega arith)

pub returns-then-rest-ne0 : goal.returns-then-rest-ne0
returns-then-rest-ne0 g c =
    let n : ℕ = c.args.len in
    let at : ℕ = c.args.at in
    let full : ℕ = n / 64 in
    let rest : ℕ = n % 64 in
    let w = c.collect_part-word.result in
    let b = c.loop-k.words in let d = c.splice_word_at_bit-then-rest-ne0.new.words in
    let end : c.loop-k.k ≡ full = omega arith in
    let inv = c.loop-k.invariant in
    let before =
    subst (λ k. WritesWords c.args.words.now b at (word_bits b at (64 * k))) end inv.written in
    let told = subst (λ k. Answers (goal.F-step g) c.args.f.now
    (span 0 (64 * k)) (word_bits b at (64 * k)) c.loop-k.f) end inv.answered in
    let ended = WritesWords-ended c.args.words.now b d at (at + 64 * full) (64 * full) rest n 64 w
    (omega arith) (omega arith) (omega arith) c.collect_part-word.ensures.clear
    before c.splice_word_at_bit-then-rest-ne0.ensures in
    record {
      answered =
          subst (λ l. Answers (goal.F-step g) c.args.f.now (span 0 n) l c.collect_part-word.new.f)
          (sym ended.0)
          (Answers-add
          (goal.F-step g) 0 (64 * full) (64 * full) rest n _ _ c.loop-k.f (digits w 0 rest) _
          (sym (zero-add (64 * full))) (omega arith) told c.collect_part-word.ensures.answered);
      written = WritesWords-less c.args.words.now d at
          (64 - rest) (word_bits d at n) ended.1 (λ i h. c.requires.clear i (omega arith));
    }
