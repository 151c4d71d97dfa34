use Rattle.std.proofs.Common.{refl, sym, subst, arith}
use Rattle.std.specs.List.{FoldsTo}
use Rattle.vb_pack.specs.Asked.{CanAsk}
use Rattle.vb_pack.proofs.AnswersLemmas.{CanAsk-front, CanAsk-past, FoldsTo-append}
use Rattle.vb_bit_buffer.proofs.CalledLemmas.{places_left-all, places_left-passed}
use Rattle.vb_bit_buffer.proofs.CalledLemmas.{places_left-other, one_below}
use Rattle.vb_bit_buffer.proofs.bit_buffer.for_each.places_in_words.Goals as goal

pub loop-other-init : goal.loop-other-init
loop-other-init g c =
    let a = c.args in
    let same = places_left-all a.bytes.now a.offset a.value a.base a.words in
    record {
      from = omega arith;
      within = omega arith;
      whole = omega arith;
      callable = subst (CanAsk (goal.F-pre g) (goal.F-step g) a.f.now) (sym same)
          c.requires.callable;
      ran = λ last called. subst
          (λ xs. FoldsTo (λ p i q. goal.F-step g p i tt q) a.f.now xs last) same called;
    }

pub first_other-requires-clause-order : goal.first_other-requires-clause-order
first_other-requires-clause-order g c = c.loop-other.invariant.within

pub first_other-requires-clause-whole : goal.first_other-requires-clause-whole
first_other-requires-clause-whole g c = c.loop-other.invariant.whole

pub overflow_sub-at-in-Some : goal.overflow_sub-at-in-Some
overflow_sub-at-in-Some g c =
    let found = c.in-Some.ensures in let from = c.loop-other.invariant.from in
    let aligned = c.requires.whole (omega (arith, found.from, found.within, from)) in
    omega (arith, aligned, found.from, from)

pub ones_or_all-requires-clause-fits : goal.ones_or_all-requires-clause-fits
ones_or_all-requires-clause-fits g c = λ i one. omega (
  arith,
  one_below c.others.result 64 i c.others.type_inv one,
  c.in-Some.ensures.from,
  c.in-Some.ensures.within,
  c.requires.window.fits,
)

pub ones_or_all-requires-clause-callable : goal.ones_or_all-requires-clause-callable
ones_or_all-requires-clause-callable g c =
    let a = c.args in let inv = c.loop-other.invariant in
    let cut = places_left-other a.bytes.now a.offset a.value a.base a.words c.loop-other.at inv.from
    c.requires.whole c.in-Some.other c.others.result c.others.ensures c.in-Some.ensures in
    CanAsk-front (goal.F-step g) (goal.F-pre g) c.loop-other.f _ _
    (subst (CanAsk (goal.F-pre g) (goal.F-step g) c.loop-other.f) cut inv.callable)

pub loop-other-smaller : goal.loop-other-smaller
loop-other-smaller g c =
    omega (arith, c.in-Some.ensures.from, c.in-Some.ensures.within)

pub loop-other-preserved : goal.loop-other-preserved
loop-other-preserved g c =
    let a = c.args in let inv = c.loop-other.invariant in
    let found = c.in-Some.ensures in
    let cut = places_left-other a.bytes.now a.offset a.value a.base a.words c.loop-other.at inv.from
    c.requires.whole c.in-Some.other c.others.result c.others.ensures found in
    let before = c.loop-other.f in let after = c.ones_or_all.new.f in
    record {
      from = omega (arith, found.from, inv.from);
      within = found.within;
      whole = found.whole;
      callable = CanAsk-past (goal.F-step g) (goal.F-pre g) before _ _ after
          (subst (CanAsk (goal.F-pre g) (goal.F-step g) before) cut inv.callable)
          c.ones_or_all.ensures;
      ran = λ last called. inv.ran last
          (subst (λ xs. FoldsTo (λ p i q. goal.F-step g p i tt q) before xs last) (sym cut)
          (FoldsTo-append (λ p i q. goal.F-step g p i tt q) before _ _ after last
          c.ones_or_all.ensures called));
    }

pub returns : goal.returns
returns g c =
    let a = c.args in let inv = c.loop-other.invariant in let f = c.loop-other.f in
    let none = places_left-passed a.bytes.now a.offset a.value a.base a.words c.loop-other.at
    inv.from c.requires.whole inv.within c.in_default.ensures in
    inv.ran f (subst (λ xs. FoldsTo (λ p i q. goal.F-step g p i tt q) f xs f) (sym none) refl)
