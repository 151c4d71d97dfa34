use Rattle.std.proofs.Common.{arith, ◌≡◌, ℕ, ◌+◌, ◌-◌, ◌*◌, ◌/◌, ◌%◌, ◌<◌, ◌++◌, false, length, set}
use Rattle.std.proofs.Common.{replicate, subst, sym, ap, ◌∙◌, zero-add}
use Rattle.std.proofs.lemmas.List.{append-nil}
use Rattle.vb_bits.proofs.DigitsLemmas.{length-digits}
use Rattle.vb_pack.specs.Asked.{Answers, CanAsk, span}
use Rattle.vb_pack.specs.Digits.{digits}
use Rattle.vb_pack.specs.WordBits.{WritesWords, word_bits}
use Rattle.vb_pack.proofs.AnswersLemmas.{Answers_none, Answers-add, CanAsk-first, CanAsk-rest}
use Rattle.vb_pack.proofs.WordsLemmas.{length-word_bits, word_bits_none, WritesWords_none}
use Rattle.vb_pack.proofs.WordsLemmas.{WritesWords_set, WritesWords-more, WritesWords-ended}
use Rattle.vb_pack.proofs.words.collect_words.Goals as goal

pub loop-k-init : goal.loop-k-init
loop-k-init g c =
    let all : c.args.len - 0 ≡ c.args.len = omega arith in
    record {
      callable = rw all c.requires.callable;
      answered = rw word_bits_none (Answers_none (goal.F-step g) 0 c.args.f.now);
      written = WritesWords_none c.args.words.now 0 _ (length-word_bits c.args.words.now 0 0);
    }

pub collect_full-requires-clause-callable : goal.collect_full-requires-clause-callable
collect_full-requires-clause-callable g c =
    CanAsk-first (goal.F-step g) (goal.F-pre g) (64 * c.loop-k.k) 64 (c.args.len - 64 * c.loop-k.k)
    (c.args.len - 64 * c.loop-k.k - 64) c.loop-k.f (omega arith) c.loop-k.invariant.callable

pub loop-k-preserved : goal.loop-k-preserved
loop-k-preserved g c =
    let k : ℕ = c.loop-k.k in let w = c.collect_full.result in
    let inv = c.loop-k.invariant in
    let next : 64 * (k + 1) ≡ 64 * k + 64 = omega arith in
    let inside : k < length c.loop-k.words = omega arith in
    let more = WritesWords-more _ c.loop-k.words (set c.loop-k.words k w) 0 (64 * k) (64 * k) 64
    (64 * (k + 1)) (digits w 0 64) (sym (zero-add (64 * k))) (length-digits w 0 64)
    next inv.written (WritesWords_set c.loop-k.words k w inside) in
    record {
      callable = CanAsk-rest (goal.F-step g) (goal.F-pre g) (64 * k) (64 * (k + 1)) 64
          (c.args.len - 64 * k) (c.args.len - 64 * (k + 1)) c.loop-k.f (digits w 0 64)
          c.collect_full.new.f (omega arith) next inv.callable c.collect_full.ensures;
      answered = subst (λ l. Answers
          (goal.F-step g) c.args.f.now (span 0 (64 * (k + 1))) l c.collect_full.new.f) (sym more.0)
          (Answers-add (goal.F-step g) 0 (64 * k) (64 * k) 64
          (64 * (k + 1)) _ _ c.loop-k.f (digits w 0 64) c.collect_full.new.f
          (sym (zero-add (64 * k))) next inv.answered c.collect_full.ensures);
      written = more.1;
    }

pub collect_part-requires-clause-callable : goal.collect_part-requires-clause-callable
collect_part-requires-clause-callable g c =
    let from : 64 * c.loop-k.k ≡ 64 * (c.args.len / 64) = omega arith in
    let rest : c.args.len - 64 * c.loop-k.k ≡ c.args.len % 64 = omega arith in
    subst (λ a. CanAsk (goal.F-pre g) (goal.F-step g) c.loop-k.f (span a (c.args.len % 64))) from
    (subst (λ n. CanAsk (goal.F-pre g) (goal.F-step g) c.loop-k.f (span (64 * c.loop-k.k) n))
    rest c.loop-k.invariant.callable)

pub returns-then-rest-ne0 : goal.returns-then-rest-ne0
returns-then-rest-ne0 g c =
    let n : ℕ = c.args.len in
    let full : ℕ = n / 64 in
    let rest : ℕ = n % 64 in
    let w = c.collect_part.result in
    let b = c.loop-k.words in let d = set b full w in
    let end : c.loop-k.k ≡ full = omega arith in
    let inside : full < length b = omega arith in
    let inv = c.loop-k.invariant in
    let before =
    subst (λ k. WritesWords c.args.words.now b 0 (word_bits b 0 (64 * k))) end inv.written in
    let told = subst (λ k. Answers (goal.F-step g) c.args.f.now
    (span 0 (64 * k)) (word_bits b 0 (64 * k)) c.loop-k.f) end inv.answered in
    let ended = WritesWords-ended c.args.words.now b d 0
    (64 * full) (64 * full) rest n 64 w (sym (zero-add (64 * full))) (omega arith)
    (omega arith) c.collect_part.ensures.clear before (WritesWords_set b full w inside) in
    let filled : 64 - rest ≡ (64 - length (word_bits d 0 n) % 64) % 64 =
    rw length-word_bits (omega arith) in
    record {
      answered = subst (λ l. Answers (goal.F-step g) c.args.f.now (span 0 n) l c.collect_part.new.f)
          (sym ended.0)
          (Answers-add
          (goal.F-step g) 0 (64 * full) (64 * full) rest n _ _ c.loop-k.f (digits w 0 rest) _
          (sym (zero-add (64 * full))) (omega arith) told c.collect_part.ensures.answered);
      written = subst (λ k. WritesWords c.args.words.now d 0 (word_bits d 0 n ++ replicate k false))
          filled ended.1;
    }

pub returns-else-rest-ne0-clause-written : goal.returns-else-rest-ne0-clause-written
returns-else-rest-ne0-clause-written g c =
    let n : ℕ = c.args.len in let b = c.loop-k.words in
    let whole : 64 * c.loop-k.k ≡ n = omega arith in
    let none : (64 - length (word_bits b 0 n) % 64) % 64 ≡ 0 = rw length-word_bits (omega arith) in
    subst (WritesWords c.args.words.now b 0)
    (sym (ap (λ k. word_bits b 0 n ++ replicate k false) none ∙ append-nil (word_bits b 0 n)))
    (subst
    (λ k. WritesWords c.args.words.now b 0 (word_bits b 0 k)) whole c.loop-k.invariant.written)
