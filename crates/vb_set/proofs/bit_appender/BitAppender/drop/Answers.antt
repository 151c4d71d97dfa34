use Rattle.std.proofs.Common.{rules, Result, Ok, Err, IsOk, OnOk, arith}
use Rattle.vb_set.proofs.AppenderLemmas.{HasAdded-written}
use Rattle.vb_set.proofs.bit_appender.BitAppender.drop.Goals as goal

-- a property of an `Ok` result, for a result that is `Ok`
held : {B E : Type 0} (r : Result B E) (P : Type 0) → IsOk r → OnOk r P → P
held (Ok _) P ok said = said
held (Err _) P ok said = absurd (search (rules, ok))

-- there is capacity for the pending bits
pub returns-clause-adds : goal.returns-clause-adds
returns-clause-adds g c = λ start added h.
    let ok = (c.append_word.ensures.in_room (omega (
      arith,
      h.ready.room,
      c.args.self.within,
    ))).0 in
    HasAdded-written start c.append_word.new.self added c.args.self h
    (held c.append_word.result _ ok c.append_word.ensures.ok)
