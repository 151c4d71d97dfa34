-- Written by tools/write-lists from tools/families/indices.txt.
use Rattle.std.proofs.Common.{◌+◌, ◌++◌, ◌∷◌, [], sym, ap, ◌∙◌, arith}
use Rattle.std.proofs.lemmas.List.{append_assoc, length-append, length-set}
use Rattle.vb_bits.proofs.FillsLemmas.{set_next}
use Rattle.vb_c.proofs.FilledLemmas.{Fills-full}
use Rattle.vb_c.proofs.walk.first_indices.Goals as goal

pub loop-place-preserved : goal.loop-place-preserved
loop-place-preserved c =
    let inv = c.loop-place.invariant in
    let n = c.loop-place.written in
    let front = c.loop-place.yielded in
    let len = length-set c.loop-place.out n c.in-Some.place ∙ inv.len in
    record {
      can_next = tt;
      is_finite = tt;
      whole = append_assoc front (c.in-Some.place ∷ []) c.next.new.self
          ∙ ap (λ l. front ++ l) (sym c.in-Some.ensures.steps) ∙ inv.whole;
      count = omega (arith, inv.count, length-append front (c.in-Some.place ∷ []));
      room = omega (arith, inv.room, len, c.if-written-out.false);
      len = len;
      items = set_next front c.args.out.now c.loop-place.out c.in-Some.place n inv.count inv.room
          inv.items;
    }

pub returns-then-written-out : goal.returns-then-written-out
returns-then-written-out c =
    let inv = c.loop-place.invariant in
    let n = c.loop-place.written in
    let front = c.loop-place.yielded in
    let len = length-set c.loop-place.out n c.in-Some.place ∙ inv.len in
    Fills-full (front ++ c.in-Some.place ∷ []) c.next.new.self _ c.args.out.now _ (n + 1)
    (append_assoc front (c.in-Some.place ∷ []) c.next.new.self
    ∙ ap (λ l. front ++ l) (sym c.in-Some.ensures.steps) ∙ inv.whole)
    (omega (arith, inv.count, length-append front (c.in-Some.place ∷ [])))
    (omega (arith, len, c.if-written-out.true))
    (set_next front c.args.out.now c.loop-place.out c.in-Some.place n inv.count inv.room inv.items)
