use Rattle.std.proofs.Common.{◌<◌, rules, true, [], ◌∷◌, subst, arith}
use Rattle.std.proofs.lemmas.List.Elements.{All-push}
use Rattle.std.specs.Iterator.{Yields}
use Rattle.vb_bits.proofs.KeepsLemmas.{KeepsBehind-write, Writes-first}
use Rattle.vb_bits.proofs.MarksLemmas.{MarkedAt-bit, with_true-all}
use Rattle.vb_bits.proofs.mark.set_bits_at.Goals as goal

pub returns-then-place-len-clause-past : goal.returns-then-place-len-clause-past
returns-then-place-len-clause-past g c =
    let step = subst (λ r. g.I.Iterator.next_gives c.loop-place.place-iterator r c.next.new.self)
    c.in-Some.is c.next.ensures.steps in
    let run = subst
    (λ s. Yields g.I.Iterator.next_gives s c.loop-place.yielded c.loop-place.place-iterator)
    c.into_iter-place-iterator.ensures.into_iter_gives c.loop-place.yielded_by in (
      c.loop-place.yielded,
      c.next.new.self,
      (c.loop-place.place-iterator, run, step),
      c.loop-place.invariant.below,
      omega arith,
    )

pub returns-then-place-len-clause-others : goal.returns-then-place-len-clause-others
returns-then-place-len-clause-others g c =
    Writes-first c.args.len c.args.bytes.now c.loop-place.bytes c.loop-place.invariant.keeps

pub loop-place-preserved : goal.loop-place-preserved
loop-place-preserved g c =
    let n = c.args.len in
    let p = c.in-Some.place in
    let given = c.loop-place.yielded in
    let inv = c.loop-place.invariant in
    let old = c.args.bytes.now in
    let out = c.loop-place.bytes in
    let new = c.set_bit_unchecked.new.buf in
    record {
      can = search rules;
      finite = search rules;
      marked = MarkedAt-bit n p given old out new inv.marked c.set_bit_unchecked.ensures;
      below = All-push (λ i. i < n) given p inv.below (omega arith);
      keeps = KeepsBehind-write n old out new p
          (true ∷ []) inv.keeps c.set_bit_unchecked.ensures (omega arith);
    }

pub returns-clause-bits : goal.returns-clause-bits
returns-clause-bits g c =
    let given = c.loop-place.yielded in let inv = c.loop-place.invariant in (
      given,
      search rules,
      inv.below,
      with_true-all c.args.len given c.args.bytes.now c.loop-place.bytes inv.marked,
    )

pub returns-clause-others : goal.returns-clause-others
returns-clause-others g c =
    Writes-first c.args.len c.args.bytes.now c.loop-place.bytes c.loop-place.invariant.keeps
