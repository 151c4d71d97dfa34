use Rattle.std.proofs.Common.{◌≡◌, [], ◌∷◌, ◌++◌, sym, ap, ◌∙◌, subst, arith}
use Rattle.vb_set.specs.Appender.{set_of}
use Rattle.vb_set.specs.OpenSet.{AddsBits, KeepsStart}
use Rattle.vb_set.proofs.AppenderLemmas.{IsReady-same, HasAdded-fits, HasAdded-started}
use Rattle.vb_set.proofs.bit_appender.BitAppender.append.Goals as goal

pub returns-then-self-clause-too_many : goal.returns-then-self-clause-too_many
returns-then-self-clause-too_many g c = λ start added h over.
    absurd (omega (arith, over, HasAdded-fits start added c.args.self.now h c.if-self.true))

-- those that were pending are written
pub returns-clause-ok : goal.returns-clause-ok
returns-clause-ok g c = λ start added h.
    let a = c.args.self.now in
    let m = c.start_word.new.self in
    let b = c.push-2.new.self in
    let same : set_of b ≡ set_of m = ap (λ r. r.now) c.push-2.ensures.set in
    let said = c.in_ok-start_word.ensures in
    HasAdded-started start added c.args.v a b h
    (subst (AddsBits _ (set_of a)) (sym same) said.ok)
    (subst (KeepsStart (set_of a)) (sym same) said.grows)
    (λ within. ap (λ s. s.room) same ∙ said.stays within)
    (IsReady-same m b said.ready same c.push-2.ensures.limit)
    (c.push-2.ensures.pending ∙ ap (λ l. l ++ c.args.v ∷ []) said.pending)
