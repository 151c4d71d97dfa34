use Rattle.std.proofs.Common.{of_calls, ◌≡◌, ℕ, ◌+◌, ◌-◌, refl, sym, ap, ◌∙◌, subst, arith}
use Rattle.std.specs.List.{FoldsTo}
use Rattle.vb_pack.specs.Asked.{CanAsk, span}
use Rattle.vb_bit_buffer.proofs.CalledLemmas.{span_first, span_none}
use Rattle.vb_bit_buffer.proofs.bit_buffer.for_each.all.Goals as goal

pub loop-i-init : goal.loop-i-init
loop-i-init g c =
    let here : c.args.base + 0 ≡ c.args.base = omega arith in
    record {
      callable = rw here c.requires.callable;
      ran = rw here (λ last called. called);
    }

pub f-requires : goal.f-requires
f-requires g c =
    let i : ℕ = c.loop-i.i in
    let next = span_first (c.args.base + i) (64 - i) (omega arith) in
    let can = subst (CanAsk (goal.F-pre g) (goal.F-step g) c.loop-i.f)
    next c.loop-i.invariant.callable in
    let may : goal.F-pre g c.loop-i.f (c.args.base + i) = can.0 in
    search of_calls

pub loop-i-preserved : goal.loop-i-preserved
loop-i-preserved g c =
    let i : ℕ = c.loop-i.i in let inv = c.loop-i.invariant in
    let next = span_first (c.args.base + i) (64 - i) (omega arith) in
    let can = subst (CanAsk (goal.F-pre g) (goal.F-step g) c.loop-i.f) next inv.callable in
    let after : c.args.base + i + 1 ≡ c.args.base + (i + 1) = omega arith in
    let left : 64 - i - 1 ≡ 64 - (i + 1) = omega arith in
    let rest = ap (λ a. span a (64 - i - 1)) after ∙ ap (span (c.args.base + (i + 1))) left in
    record {
      callable = subst (CanAsk (goal.F-pre g) (goal.F-step g) c.f.new.self) rest
          (can.1 tt c.f.new.self c.f.ensures);
      ran = λ last called. inv.ran last
          (subst (λ xs. FoldsTo (λ p i q. goal.F-step g p i tt q) c.loop-i.f xs last) (sym next) (
            c.f.new.self,
            c.f.ensures,
            subst (λ xs. FoldsTo (λ p i q. goal.F-step g p i tt q)
                c.f.new.self xs last) (sym rest) called,
          ));
    }

pub returns : goal.returns
returns g c =
    let none : 64 - c.loop-i.i ≡ 0 = omega arith in
    c.loop-i.invariant.ran c.loop-i.f
    (subst (λ xs. FoldsTo (λ p i q. goal.F-step g p i tt q) c.loop-i.f xs c.loop-i.f) (sym
    (ap (span (c.args.base + c.loop-i.i)) none ∙ span_none (c.args.base + c.loop-i.i))) refl)
