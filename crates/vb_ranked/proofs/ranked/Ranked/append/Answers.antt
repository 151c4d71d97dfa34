use Rattle.std.proofs.Common.{sym, ◌∙◌, arith, subst}
use Rattle.vb_directory.specs.Counts.{AreCounts}
use Rattle.vb_directory.proofs.CountEditsLemmas.{AreCounts-push}
use Rattle.vb_ranked.specs.Counted.{IsReadyForBit}
use Rattle.vb_ranked.proofs.RoomLemmas.{held_on}
use Rattle.vb_ranked.proofs.ranked.Ranked.append.Goals as goal
use Rattle.vb_ranked.proofs.ranked.Ranked.append.Goals.{then-len-gt0, else-len-gt0}
use Rattle.vb_ranked.proofs.ranked.Ranked.append.Goals.{
  else-not-ready-via-then-not-ready+else-not-make_ready,
  else-not-ready-via-else-not-ready,
}

pub invariant_of-self-2 : goal.invariant_of-self-2
invariant_of-self-2 g c =
    let now = c.else-not-ready.self-inside in
    let is_ready : IsReadyForBit now.set now.counts = elim c.else-not-ready.branch [
      | else-not-ready-via-then-not-ready+else-not-make_ready w ↦
          subst (λ s. IsReadyForBit s.set s.counts) (sym w.self-inside-is)
          (w.make_ready.ensures.ready w.if-not-make_ready.false)
      | else-not-ready-via-else-not-ready w ↦ elim c.if-len-gt0.branch [
        | then-len-gt0 h ↦
            subst (λ s. IsReadyForBit s.set s.counts) (sym w.self-inside-is) (record {
              room = h.has_room-ready.ensures.room.0 (sym h.ready-is ∙ w.if-not-ready.false);
              counts_room = c.self.invariant.held (omega (arith, h.if-len-gt0.true, c.len.ensures));
              exact_with = λ v. AreCounts-push _ _ v c.self.invariant.exact
                  (omega (arith, h.if-len-gt0.true, c.len.ensures));
            })
        | else-len-gt0 h ↦ absurd
            (omega (arith, sym h.ready-is ∙ w.if-not-ready.false, h.if-len-gt0.false))
      ]
    ] in
    record {
      exact = subst (λ x. AreCounts x now.counts.numbers)
          (sym c.append_unchecked.ensures.adds.bits) (is_ready.exact_with c.args.v);
      held = λ some. held_on now.counts.room
          c.append_unchecked.ensures.stays is_ready.counts_room;
    }
