use Rattle.std.proofs.Common.{◌≡◌, ◌∷◌, [], ◌++◌, Ok, refl, rules, subst, sym, ap, ◌∙◌}
use Rattle.std.proofs.Common.{append_assoc}
use Rattle.vb_bits.specs.Bits.{places}
use Rattle.std.proofs.lemmas.Fn.{FoldsTo-push}
use Rattle.vb_pack.specs.Asked.{CanAsk}
use Rattle.vb_bit_buffer.proofs.bit_buffer.BitBuffer.try_for_each_set_index.Goals as goal

pub loop-i-init : goal.loop-i-init
loop-i-init g c =
    let all : places c.args.self.now.bits ≡ c.into_iter-i-iterator.result = search rules in
    record {
      callable = subst (CanAsk (goal.F-pre g) (λ p i r q. goal.F-step g p i (Ok r) q) c.args.f.now)
          all c.requires;
      places = all;
      ran = refl;
    }

pub loop-i-preserved : goal.loop-i-preserved
loop-i-preserved g c =
    let inv = c.loop-i.invariant in let steps = c.in-Some.ensures.steps in
    record {
      callable = (subst (CanAsk (goal.F-pre g) (λ p i r q. goal.F-step g p i (Ok r) q) c.loop-i.f)
          steps inv.callable).1 tt c.f.new.self c.in_ok-f.ensures;
      places = inv.places ∙ ap (λ t. c.loop-i.yielded ++ t) steps
          ∙ sym (append_assoc c.loop-i.yielded (c.in-Some.i ∷ []) c.next.new.self);
      ran = FoldsTo-push (λ p i q. goal.F-step g p i (Ok tt) q) c.args.f.now
          c.loop-i.yielded c.loop-i.f c.in-Some.i c.f.new.self inv.ran c.in_ok-f.ensures;
    }
