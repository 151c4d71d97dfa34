use Rattle.std.proofs.Common.{arith, ◌≡◌, ℕ, ◌+◌, ◌-◌, ◌*◌, ◌/◌, ◌%◌, ◌<◌, ◌++◌, false, length}
use Rattle.std.proofs.Common.{replicate, subst, sym, zero-add}
use Rattle.vb_bits.proofs.BitsLemmas.{length-bits, at-bits, bits_none}
use Rattle.vb_bits.proofs.DigitsLemmas.{length-digits}
use Rattle.vb_bits.proofs.WritesLemmas.{Writes_none}
use Rattle.vb_pack.specs.Asked.{Answers, CanAsk, span}
use Rattle.vb_pack.specs.Bits.{at, bit_of, bits}
use Rattle.vb_pack.specs.Digits.{digits}
use Rattle.vb_pack.specs.Writes.{Writes}
use Rattle.vb_pack.proofs.AnswersLemmas.{Answers_none, Answers-add, CanAsk-first, CanAsk-rest}
use Rattle.vb_pack.proofs.AnswersLemmas.{Answers-alike, CanAsk-alike}
use Rattle.vb_pack.proofs.BytesLemmas.{Writes-more, Writes-ended}
use Rattle.vb_pack.proofs.map.map_bool_bytes.Goals as goal

pub loop-k-init : goal.loop-k-init
loop-k-init g c =
    let all : c.args.len - 0 ≡ c.args.len = omega arith in
    let bit : (k : ℕ) → k < 0 + c.args.len → at (bits c.args.src.now c.args.offset c.args.len) k
    ≡ bit_of c.args.src.now (c.args.offset + k) =
    λ k h. at-bits c.args.src.now c.args.offset c.args.len k false (omega arith) in
    record {
      callable =
          subst (λ n. CanAsk (λ p i. goal.F-pre g p i (bit_of c.args.src.now (c.args.offset + i)))
          (λ p i b q. goal.F-step g p i (bit_of c.args.src.now (c.args.offset + i)) b q)
          c.args.f.now (span 0 n)) (sym all)
          (CanAsk-alike (λ p i b q.
          goal.F-step g p i (at (bits c.args.src.now c.args.offset c.args.len) i) b q)
          (λ p i b q. goal.F-step g p i (bit_of c.args.src.now (c.args.offset + i)) b q)
          (λ p i. goal.F-pre g p i (at (bits c.args.src.now c.args.offset c.args.len) i))
          (λ p i. goal.F-pre g p i (bit_of c.args.src.now (c.args.offset + i))) 0 c.args.len
          (λ k p h may. subst (goal.F-pre g p k) (bit k h) may) (λ k p b q h said.
          subst (λ x. goal.F-step g p k x b q) (sym (bit k h)) said) _ c.requires.callable);
      answered = rw bits_none (Answers_none (λ p i b q.
          goal.F-step g p i (bit_of c.args.src.now (c.args.offset + i)) b q) 0 c.args.f.now);
      written = Writes_none c.args.dst.now 0 _ (length-bits c.args.dst.now 0 0);
    }

pub map_full-word-requires-clause-callable : goal.map_full-word-requires-clause-callable
map_full-word-requires-clause-callable g c =
    CanAsk-first (λ p i b q. goal.F-step g p i (bit_of c.args.src.now (c.args.offset + i)) b q)
    (λ p i. goal.F-pre g p i (bit_of c.args.src.now (c.args.offset + i))) (64 * c.loop-k.k) 64
    (c.args.len - 64 * c.loop-k.k) (c.args.len - 64 * c.loop-k.k - 64) c.loop-k.f
    (omega arith) c.loop-k.invariant.callable

pub loop-k-preserved : goal.loop-k-preserved
loop-k-preserved g c =
    let k : ℕ = c.loop-k.k in let w = c.map_full-word.result in
    let inv = c.loop-k.invariant in
    let next : 64 * (k + 1) ≡ 64 * k + 64 = omega arith in
    let from : 8 * (8 * k) ≡ 0 + 64 * k = omega arith in
    let more = Writes-more _ c.loop-k.dst c.write_front.new.bytes 0 (8 * (8 * k)) (64 * k) 64
    (64 * (k + 1)) (digits w 0 64) from
    (length-digits w 0 64) next inv.written c.write_front.ensures in
    record {
      callable =
          CanAsk-rest (λ p i b q. goal.F-step g p i (bit_of c.args.src.now (c.args.offset + i)) b q)
          (λ p i. goal.F-pre g p i (bit_of c.args.src.now (c.args.offset + i))) (64 * k) (64
          * (k + 1)) 64 (c.args.len - 64 * k) (c.args.len - 64 * (k + 1)) c.loop-k.f (digits w 0 64)
          c.map_full-word.new.f (omega arith) next inv.callable c.map_full-word.ensures;
      answered = subst (λ l.
          Answers (λ p i b q. goal.F-step g p i (bit_of c.args.src.now (c.args.offset + i)) b q)
          c.args.f.now (span 0 (64 * (k + 1))) l c.map_full-word.new.f) (sym more.0)
          (Answers-add (λ p i b q. goal.F-step g p i
          (bit_of c.args.src.now (c.args.offset + i)) b q) 0 (64 * k) (64 * k) 64
          (64 * (k + 1)) _ _ c.loop-k.f (digits w 0 64) c.map_full-word.new.f
          (sym (zero-add (64 * k))) next inv.answered c.map_full-word.ensures);
      written = more.1;
    }

pub map_part-last-requires-clause-callable : goal.map_part-last-requires-clause-callable
map_part-last-requires-clause-callable g c =
    let from : 64 * c.loop-k.k ≡ 64 * (c.args.len / 64) = omega arith in
    let rest : c.args.len - 64 * c.loop-k.k ≡ c.args.len % 64 = omega arith in
    subst (λ a. CanAsk (λ p i. goal.F-pre g p i (bit_of c.args.src.now (c.args.offset + i)))
    (λ p i b q. goal.F-step g p i (bit_of c.args.src.now (c.args.offset + i)) b q) c.loop-k.f
    (span a (c.args.len % 64))) from
    (subst (λ n. CanAsk (λ p i. goal.F-pre g p i (bit_of c.args.src.now (c.args.offset + i)))
    (λ p i b q. goal.F-step g p i (bit_of c.args.src.now (c.args.offset + i)) b q) c.loop-k.f
    (span (64 * c.loop-k.k) n)) rest c.loop-k.invariant.callable)

pub returns : goal.returns
returns g c =
    let n : ℕ = c.args.len in
    let full : ℕ = n / 64 in
    let rest : ℕ = n % 64 in
    let w = c.map_part-last.result in
    let b = c.loop-k.dst in let d = c.write_front-2.new.bytes in
    let end : c.loop-k.k ≡ full = omega arith in
    let inv = c.loop-k.invariant in
    let before = subst (λ k. Writes c.args.dst.now b 0 (bits b 0 (64 * k))) end inv.written in
    let told = subst (λ k. Answers
    (λ p i b q. goal.F-step g p i (bit_of c.args.src.now (c.args.offset + i)) b q) c.args.f.now
    (span 0 (64 * k)) (bits b 0 (64 * k)) c.loop-k.f) end inv.answered in
    let up = c.div_ceil.result in
    let ended = Writes-ended c.args.dst.now b d 0 (8 * (8 * full)) (64 * full) rest n (8 * up) w
    (omega arith)
    (omega arith) (omega arith) c.map_part-last.ensures.clear before c.write_front-2.ensures in
    let filled : 8 * up - rest ≡ (8 - length (bits d 0 n) % 8) % 8 = rw length-bits (omega arith) in
    record {
      answered = Answers-alike
          (λ p i b q. goal.F-step g p i (bit_of c.args.src.now (c.args.offset + i)) b q) (λ p i b q.
          goal.F-step g p i (at (bits c.args.src.now c.args.offset c.args.len) i) b q) 0 n
          (λ k p b q h said. subst (λ x. goal.F-step g p k x b q)
          (sym (at-bits c.args.src.now c.args.offset n k false (omega arith))) said) _ _ _
          (subst (λ l. Answers (λ p i b q. goal.F-step g p i (bit_of c.args.src.now (c.args.offset
          + i)) b q) c.args.f.now (span 0 n) l c.map_part-last.new.f) (sym ended.0)
          (Answers-add (λ p i b q. goal.F-step g p i (bit_of c.args.src.now (c.args.offset + i)) b
          q) 0 (64 * full) (64 * full) rest n _ _ c.loop-k.f (digits w 0 rest) _
          (sym (zero-add (64 * full))) (omega arith) told c.map_part-last.ensures.answered));
      written =
          subst (λ k. Writes c.args.dst.now d 0 (bits d 0 n ++ replicate k false)) filled ended.1;
    }
