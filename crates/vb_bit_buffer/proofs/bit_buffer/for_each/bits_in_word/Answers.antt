use Rattle.std.proofs.Common.{of_calls, ◌≡◌, ℕ, ◌+◌, ◌-◌, refl, sym, ap, ◌∙◌, subst, arith}
use Rattle.std.specs.List.{FoldsTo}
use Rattle.vb_bits.proofs.ReadLemmas.{has_bit-bits}
use Rattle.vb_bits.specs.Bits.{bit_of}
use Rattle.vb_pack.specs.Asked.{CanAsk, span}
use Rattle.vb_bit_buffer.proofs.CalledLemmas.{span_first, span_none}
use Rattle.vb_bit_buffer.proofs.bit_buffer.for_each.bits_in_word.Goals as goal

pub loop-i-init : goal.loop-i-init
loop-i-init g c =
    let here : c.args.base + 0 ≡ c.args.base = omega arith in
    let all : c.args.len - 0 ≡ c.args.len = omega arith in
    record {
      callable = rw (here, all) c.requires.callable;
      ran = rw (here, all) (λ last called. called);
    }

pub f-requires : goal.f-requires
f-requires g c =
    let i : ℕ = c.loop-i.i in let place : ℕ = c.args.base + i in
    let from : c.args.offset + c.args.base + i ≡ c.args.offset + place = omega arith in
    let bit : c.digit.result ≡ bit_of c.args.bytes.now (c.args.offset + place) =
    c.digit.ensures ∙ has_bit-bits c.args.bytes.now c.read_word-word.result
    (c.args.offset + c.args.base) c.args.len i c.read_word-word.ensures.digits (omega arith)
    ∙ ap (bit_of c.args.bytes.now) from in
    let next = span_first place (c.args.len - i) (omega arith) in
    let can = subst (CanAsk (λ p i. goal.F-pre g p i (bit_of c.args.bytes.now (c.args.offset + i)))
    (λ p i r q. goal.F-step g p i (bit_of c.args.bytes.now (c.args.offset + i)) r q) c.loop-i.f)
    next c.loop-i.invariant.callable in
    let may : goal.F-pre g c.loop-i.f place c.digit.result =
    subst (goal.F-pre g c.loop-i.f place) (sym bit) can.0 in
    search of_calls

pub loop-i-preserved : goal.loop-i-preserved
loop-i-preserved g c =
    let i : ℕ = c.loop-i.i in let place : ℕ = c.args.base + i in let n : ℕ = c.args.len in
    let from : c.args.offset + c.args.base + i ≡ c.args.offset + place = omega arith in
    let bit : c.digit.result ≡ bit_of c.args.bytes.now (c.args.offset + place) =
    c.digit.ensures ∙ has_bit-bits c.args.bytes.now c.read_word-word.result
    (c.args.offset + c.args.base) n i c.read_word-word.ensures.digits (omega arith)
    ∙ ap (bit_of c.args.bytes.now) from in
    let said = subst (λ x. goal.F-step g c.loop-i.f place x tt c.f.new.self) bit c.f.ensures in
    let next = span_first place (n - i) (omega arith) in
    let can = subst (CanAsk (λ p i. goal.F-pre g p i (bit_of c.args.bytes.now (c.args.offset + i)))
    (λ p i r q. goal.F-step g p i (bit_of c.args.bytes.now (c.args.offset + i)) r q) c.loop-i.f)
    next c.loop-i.invariant.callable in
    let after : place + 1 ≡ c.args.base + (i + 1) = omega arith in
    let left : n - i - 1 ≡ n - (i + 1) = omega arith in
    let rest = ap (λ a. span a (n - i - 1)) after ∙ ap (span (c.args.base + (i + 1))) left in
    record {
      callable =
          subst (CanAsk (λ p i. goal.F-pre g p i (bit_of c.args.bytes.now (c.args.offset + i)))
          (λ p i r q. goal.F-step g p i (bit_of c.args.bytes.now (c.args.offset + i)) r q)
          c.f.new.self) rest (can.1 tt c.f.new.self said);
      ran = λ last called. c.loop-i.invariant.ran last
          (subst (λ xs. FoldsTo (λ p i q. goal.F-step g p i
          (bit_of c.args.bytes.now (c.args.offset + i)) tt q) c.loop-i.f xs last) (sym next) (
            c.f.new.self,
            said,
            subst (λ xs. FoldsTo (λ p i q. goal.F-step g p i (bit_of
                c.args.bytes.now (c.args.offset + i)) tt q) c.f.new.self xs last) (sym rest) called,
          ));
    }

pub returns : goal.returns
returns g c =
    let none : c.args.len - c.loop-i.i ≡ 0 = omega arith in
    c.loop-i.invariant.ran c.loop-i.f
    (subst (λ xs. FoldsTo (λ p i q. goal.F-step g p i
    (bit_of c.args.bytes.now (c.args.offset + i)) tt q) c.loop-i.f xs c.loop-i.f) (sym
    (ap (span (c.args.base + c.loop-i.i)) none ∙ span_none (c.args.base + c.loop-i.i))) refl)
