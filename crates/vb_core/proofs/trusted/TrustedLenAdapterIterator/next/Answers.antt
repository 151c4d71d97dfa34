use Rattle.std.proofs.Common.{◌≡◌, arith, ap}
use Rattle.vb_core.proofs.LengthSteps.{IsLength-some, IsLength-none}
use Rattle.vb_core.proofs.trusted.TrustedLenAdapterIterator.next.Goals as goal

pub returns-in_err-item-clause-steps : goal.returns-in_err-item-clause-steps
returns-in_err-item-clause-steps g c =
    let known = rw (← c.self.view_is) at c.requires in
    let none : 0 ≡ c.self.inside.left =
    IsLength-none g.I.Iterator.next_gives
    c.self.inside.iter c.next.new.self c.self.inside.left known.1 c.in_err-item.ensures.steps in
    absurd (omega arith)

pub returns-clause-goes : goal.returns-clause-goes
returns-clause-goes g c =
    let known = rw (← c.self.view_is) at c.requires in
    let rest = IsLength-some g.I.Iterator.next_gives c.self.inside.iter
    c.in_ok-item.item c.next.new.self c.self.inside.left known.1 c.in_ok-item.ensures.steps in
    let left : c.self.inside.left ≡ c.args.self.now.left = ap (λ s. s.left) c.self.view_is in
    record {
      on = λ _. ((c.in_ok-item.ensures.goes.keeps, rest), tt, omega arith);
      keeps = (c.in_ok-item.ensures.goes.keeps, rest);
      rests = λ _. tt;
    }
