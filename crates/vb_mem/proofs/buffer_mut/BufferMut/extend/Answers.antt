use Rattle.std.proofs.Common.{rules, ◌≡◌, ◌≤◌, ◌+◌, [], ◌∷◌, ◌++◌, Result, Ok, Err, IsErr}
use Rattle.std.proofs.Common.{length, length-append, append-nil, refl, subst, ap, arith}
use Rattle.std.specs.Prelude.{MatchResult}
use Rattle.vb_mem.proofs.Growth.{Lengthens-append, Lengthens-asked}
use Rattle.vb_mem.proofs.Runs.{Yields-push, Yields-append}
use Rattle.vb_mem.proofs.buffer_mut.BufferMut.extend.Goals as goal

-- an error is not a value
at_err : {B E : Type 0} (r : Result B E) (P Q : Type 0) → IsErr r → Q
    → MatchResult r (λ _. P) (λ _. Q)
at_err (Ok _) P Q err q = absurd (search (rules, err))
at_err (Err _) P Q err q = q

pub loop-item-init : goal.loop-item-init
loop-item-init g c =
    let asked = c.requires c.into_iter-rest.result c.into_iter-rest.ensures.into_iter_gives in
    record {
      can = asked.0;
      finite = asked.1;
      given = ([], refl, search rules);
    }

-- the items for which there was capacity, and then the end
pub returns-in_default-clause-lengthens : goal.returns-in_default-clause-lengthens
returns-in_default-clause-lengthens g c =
    let steps = g.I.IntoIter.Iterator.next_gives in
    let start = c.into_iter-rest.result in
    let kept = c.loop-item.invariant.given in
    let filled = c.fill_room-over.ensures.fills in
    let gave = filled.2.0 in
    let left = c.fill_room-over.result.1 in
    let run = Yields-append steps kept.0 filled.0 start c.loop-item.rest gave.0 kept.1 gave.1 in (
      start,
      kept.0 ++ filled.0,
      c.into_iter-rest.ensures.into_iter_gives,
      Lengthens-append kept.0 filled.0 c.args.self.now c.loop-item.self
          c.fill_room-over.new.self kept.2 filled.1,
      (left, (gave.0, run, subst (λ r. steps gave.0 r left) c.in_default.is gave.2)),
    )

-- the items for which there was capacity, before the allocation for the next one failed
pub returns-in_err-push-clause-lengthens
    : goal.returns-in_err-push-clause-lengthens
returns-in_err-push-clause-lengthens g c =
    let steps = g.I.IntoIter.Iterator.next_gives in
    let start = c.into_iter-rest.result in
    let kept = c.loop-item.invariant.given in
    let filled = c.fill_room-over.ensures.fills in
    let gave = filled.2.0 in
    let run = Yields-append steps kept.0 filled.0 start c.loop-item.rest gave.0 kept.1 gave.1 in
    let grown =
    Lengthens-append kept.0 filled.0 c.args.self.now c.loop-item.self c.fill_room-over.new.self
    kept.2 filled.1 in
    let roomy =
    Lengthens-append (kept.0 ++ filled.0) [] c.args.self.now c.fill_room-over.new.self
    c.reserve.new.self grown (Lengthens-asked c.reserve.result _ _ c.reserve.ensures.ok
    c.reserve.ensures.needs_room.err) in
    let same = append-nil (kept.0 ++ filled.0) in (
      start,
      kept.0 ++ filled.0,
      c.into_iter-rest.ensures.into_iter_gives,
      rw c.in_err-push.ensures.needs_room.err (rw same at roomy),
      at_err c.from_residual.result _ _ c.from_residual.ensures.0 (gave.0, run),
    )

-- if there had been capacity for all items, the list would not have been full
pub returns-in_err-push-clause-in_place
    : goal.returns-in_err-push-clause-in_place
returns-in_err-push-clause-in_place g c room =
    let steps = g.I.IntoIter.Iterator.next_gives in
    let start = c.into_iter-rest.result in
    let kept = c.loop-item.invariant.given in
    let filled = c.fill_room-over.ensures.fills in
    let gave = filled.2.0 in
    let left = c.fill_room-over.result.1 in
    let item = c.in-Some.item in
    let before = Yields-append steps kept.0 filled.0 start c.loop-item.rest gave.0 kept.1 gave.1 in
    let run =
    Yields-push steps (kept.0 ++ filled.0) start gave.0 left item before
    (subst (λ r. steps gave.0 r left) c.in-Some.is gave.2) in
    let old = c.args.self.now in
    let fits : length old.list + length ((kept.0 ++ filled.0) ++ item ∷ []) ≤ old.room =
    room start c.into_iter-rest.ensures.into_iter_gives ((kept.0 ++ filled.0) ++ item ∷ []) left
    run in
    let full : length c.fill_room-over.new.self.list ≡ c.fill_room-over.new.self.room =
    rw c.in-Some.is at c.fill_room-over.ensures.full in
    let grown =
    Lengthens-append kept.0 filled.0 old c.loop-item.self c.fill_room-over.new.self kept.2
    filled.1 in
    absurd
    (omega (
      arith,
      fits,
      full,
      c.fill_room-over.ensures.room,
      kept.2.room,
      ap length grown.list,
      length-append old.list (kept.0 ++ filled.0),
      length-append (kept.0 ++ filled.0) (item ∷ []),
    ))

pub loop-item-smaller : goal.loop-item-smaller
loop-item-smaller g c = (rw c.in-Some.is at c.fill_room-over.ensures.fills.2.1).2

pub loop-item-preserved : goal.loop-item-preserved
loop-item-preserved g c =
    let steps = g.I.IntoIter.Iterator.next_gives in
    let start = c.into_iter-rest.result in
    let kept = c.loop-item.invariant.given in
    let filled = c.fill_room-over.ensures.fills in
    let gave = filled.2.0 in
    let left = c.fill_room-over.result.1 in
    let item = c.in-Some.item in
    let nearer = rw c.in-Some.is at filled.2.1 in
    let before = Yields-append steps kept.0 filled.0 start c.loop-item.rest gave.0 kept.1 gave.1 in
    let run =
    Yields-push steps (kept.0 ++ filled.0) start gave.0 left item before
    (subst (λ r. steps gave.0 r left) c.in-Some.is gave.2) in
    let grown =
    Lengthens-append kept.0 filled.0 c.args.self.now c.loop-item.self c.fill_room-over.new.self
    kept.2 filled.1 in
    let roomy =
    Lengthens-append (kept.0 ++ filled.0) [] c.args.self.now c.fill_room-over.new.self
    c.reserve.new.self grown (Lengthens-asked c.reserve.result _ _ c.reserve.ensures.ok
    c.reserve.ensures.needs_room.err) in
    let same = append-nil (kept.0 ++ filled.0) in
    record {
      can = nearer.0;
      finite = nearer.1;
      given = (
        (kept.0 ++ filled.0) ++ item ∷ [],
        run,
        Lengthens-append (kept.0 ++ filled.0) (item ∷ []) c.args.self.now c.reserve.new.self
            c.push.new.self (rw same at roomy) c.in_ok-push.ensures.ok,
      );
    }
