use Rattle.std.proofs.Common.{◌≡◌, false, ℕ, ◌+◌, ◌-◌, ◌*◌, ◌/◌, ◌%◌, ◌<◌, sym, ap, ◌∙◌, subst}
use Rattle.std.proofs.Common.{arith}
use Rattle.std.specs.List.{FoldsTo}
use Rattle.vb_bits.specs.Bits.{at, bit_of, bits}
use Rattle.vb_bits.proofs.BitsLemmas.{at-bits}
use Rattle.vb_pack.specs.Asked.{CanAsk, span}
use Rattle.vb_pack.proofs.AnswersLemmas.{span-cut, CanAsk-front, CanAsk-past, CanAsk-alike}
use Rattle.vb_pack.proofs.AnswersLemmas.{FoldsTo-append, FoldsTo-alike}
use Rattle.vb_bit_buffer.proofs.bit_buffer.for_each.for_each_bit.Goals as goal

pub loop-k-init : goal.loop-k-init
loop-k-init g c =
    let n : ℕ = c.args.len in
    let all : n - 0 ≡ n = omega arith in
    let bit : (k : ℕ) → k < 0 + n → at (bits c.args.bytes.now c.args.offset n) k
    ≡ bit_of c.args.bytes.now (c.args.offset + k) =
    λ k h. at-bits c.args.bytes.now c.args.offset n k false (omega arith) in
    record {
      callable = rw all
          (CanAsk-alike (λ p i r q. goal.F-step g p i (at (bits c.args.bytes.now c.args.offset n) i)
          r q) (λ p i r q. goal.F-step g p i (bit_of c.args.bytes.now (c.args.offset + i)) r q)
          (λ p i. goal.F-pre g p i (at (bits c.args.bytes.now c.args.offset n) i))
          (λ p i. goal.F-pre g p i (bit_of c.args.bytes.now (c.args.offset + i))) 0 n
          (λ k p h may. subst (goal.F-pre g p k) (bit k h) may) (λ k p r q h said. subst (λ x.
          goal.F-step g p k x r q) (sym (bit k h)) said) c.args.f.now c.requires.callable);
      ran = rw all (λ last called. called);
    }

pub bits_in_word-requires-clause-callable : goal.bits_in_word-requires-clause-callable
bits_in_word-requires-clause-callable g c =
    let k : ℕ = c.loop-k.k in
    let cut = span-cut (64 * k) (64 * (k + 1)) 64
    (c.args.len - 64 * k) (c.args.len - 64 * (k + 1)) (omega arith) (omega arith) in
    CanAsk-front (λ p i r q. goal.F-step g p i (bit_of c.args.bytes.now (c.args.offset + i)) r q)
    (λ p i. goal.F-pre g p i (bit_of c.args.bytes.now (c.args.offset + i))) c.loop-k.f
    (span (64 * k) 64) (span (64 * (k + 1)) (c.args.len - 64 * (k + 1)))
    (subst (CanAsk (λ p i. goal.F-pre g p i (bit_of c.args.bytes.now (c.args.offset + i)))
    (λ p i r q. goal.F-step g p i (bit_of c.args.bytes.now (c.args.offset + i)) r q) c.loop-k.f)
    cut c.loop-k.invariant.callable)

pub loop-k-preserved : goal.loop-k-preserved
loop-k-preserved g c =
    let k : ℕ = c.loop-k.k in let inv = c.loop-k.invariant in
    let here = span (64 * k) 64 in let rest = span (64 * (k + 1)) (c.args.len - 64 * (k + 1)) in
    let cut = span-cut (64 * k) (64 * (k + 1)) 64
    (c.args.len - 64 * k) (c.args.len - 64 * (k + 1)) (omega arith) (omega arith) in
    record {
      callable =
          CanAsk-past (λ p i r q. goal.F-step g p i (bit_of c.args.bytes.now (c.args.offset + i)) r
          q) (λ p i. goal.F-pre g p i (bit_of c.args.bytes.now (c.args.offset + i))) c.loop-k.f
          here rest c.bits_in_word.new.f
          (subst (CanAsk (λ p i. goal.F-pre g p i (bit_of c.args.bytes.now (c.args.offset + i)))
          (λ p i r q. goal.F-step g p i (bit_of c.args.bytes.now (c.args.offset + i)) r q)
          c.loop-k.f) cut inv.callable) c.bits_in_word.ensures;
      ran = λ last called. inv.ran last
          (subst (λ xs. FoldsTo (λ p i q. goal.F-step g p i
          (bit_of c.args.bytes.now (c.args.offset + i)) tt q) c.loop-k.f xs last) (sym cut)
          (FoldsTo-append (λ p i q. goal.F-step g p i (bit_of c.args.bytes.now (c.args.offset + i))
          tt q) c.loop-k.f here rest c.bits_in_word.new.f last c.bits_in_word.ensures called));
    }

pub bits_in_word-requires-2-clause-callable : goal.bits_in_word-requires-2-clause-callable
bits_in_word-requires-2-clause-callable g c =
    let from : 64 * c.loop-k.k ≡ 64 * (c.args.len / 64) = omega arith in
    let rest : c.args.len - 64 * c.loop-k.k ≡ c.args.len % 64 = omega arith in
    subst (CanAsk (λ p i. goal.F-pre g p i (bit_of c.args.bytes.now (c.args.offset + i)))
    (λ p i r q. goal.F-step g p i (bit_of c.args.bytes.now (c.args.offset + i)) r q) c.loop-k.f)
    (ap (λ n. span (64 * c.loop-k.k) n) rest ∙ ap (λ a. span a (c.args.len % 64)) from)
    c.loop-k.invariant.callable

pub returns : goal.returns
returns g c =
    let n : ℕ = c.args.len in
    let from : 64 * c.loop-k.k ≡ 64 * (n / 64) = omega arith in
    let rest : n - 64 * c.loop-k.k ≡ n % 64 = omega arith in
    let last = c.bits_in_word-2.new.f in
    FoldsTo-alike (λ p i q. goal.F-step g p i (bit_of c.args.bytes.now (c.args.offset + i)) tt q)
    (λ p i q. goal.F-step g p i (at (bits c.args.bytes.now c.args.offset n) i) tt q) 0 n
    (λ k p q h said. subst (λ x. goal.F-step g p k x tt q) (sym
    (at-bits c.args.bytes.now c.args.offset n k false (omega arith))) said) c.args.f.now last
    (c.loop-k.invariant.ran last
    (subst (λ xs. FoldsTo (λ p i q. goal.F-step g p i (bit_of c.args.bytes.now
    (c.args.offset + i)) tt q) c.loop-k.f xs last) (sym (ap (λ n. span (64 * c.loop-k.k) n) rest
    ∙ ap (λ a. span a (n % 64)) from)) c.bits_in_word-2.ensures))
