use Rattle.std.proofs.Common.{◌≡◌, ℕ, ◌+◌, ◌-◌, ◌==◌, List, ◌++◌, length, take, drop, subst, ap}
use Rattle.std.proofs.Common.{◌∙◌, arith}
use Rattle.std.specs.Io.KnownBytes.{prepend_known, Keeps}
use Rattle.std.proofs.lemmas.Grind.{common_steps}
use Rattle.vb_script.proofs.Parts.{searched_longer}
use Rattle.vb_script.proofs.feed.Feed.fill.Goals as goal

pub invariant_of-self-2 : goal.invariant_of-self-2
invariant_of-self-2 g c =
    let new = c.read_behind.new.room in
    let kept = c.self.inside.end - c.self.inside.start in
    let whole : take c.leave_room.new.room.len (new ++ drop
    (length new) c.leave_room.new.room.items) ≡ new = grind (arith, common_steps) in
    let front : take kept new ≡ c.args.self.now =
    c.in-Ok.ensures.front ∙ (ap (take kept) c.deref_mut.ensures.value
    ∙ (c.leave_room.ensures.kept ∙ (c.move_to_front.ensures.moved ∙ c.self.view_is))) in
    rw whole (
      omega arith,
      c.in-Ok.ensures.within,
      searched_longer
          (λ b. b == 10) c.args.self.now new kept c.in-Ok.count c.self.inside.searched front
          (rw c.self.view_is at c.self.invariant.2),
    )

pub returns-clause-kept : goal.returns-clause-kept
returns-clause-kept g c =
    let new = c.read_behind.new.room in
    let kept = c.self.inside.end - c.self.inside.start in
    let whole : take c.leave_room.new.room.len (new ++ drop
    (length new) c.leave_room.new.room.items) ≡ new = grind (arith, common_steps) in
    let same : take kept c.deref_mut.result.now ≡ c.args.self.now =
    ap (take kept) c.deref_mut.ensures.value ∙ (c.leave_room.ensures.kept
    ∙ (c.move_to_front.ensures.moved ∙ c.self.view_is)) in
    let after = prepend_known (take (kept + c.in-Ok.count) new)
    (g.R.Source.remaining c.read_behind.new.input) in
    rw whole (subst (λ (bs : List ℕ). Keeps (prepend_known bs
    (g.R.Source.remaining c.args.input.now)) after) same c.in-Ok.ensures.kept)
