-- Growth in several steps.
use Rattle.std.proofs.Common.{◌≡◌, ◌∙◌, ap, arith, rules}
use Rattle.std.proofs.Common.{List, [], ◌++◌, append_assoc, Result, Ok, Err}
use Rattle.std.specs.Prelude.{OnOk, OnErr}
use Rattle.vb_mem.specs.OpenBuffer.{OpenBuffer, Lengthens}

-- items added after other items
pub Lengthens-append : {T : Type 0} (xs ys : List T) (a b c : OpenBuffer T) → Lengthens xs a b
    → Lengthens ys b c → Lengthens (xs ++ ys) a c
Lengthens-append xs ys a b c first more = record {
  list = more.list ∙ ap (λ l. l ++ ys) first.list ∙ append_assoc a.list xs ys;
  alignment = more.alignment ∙ first.alignment;
  declared = more.declared ∙ first.declared;
  room = omega (arith, first.room, more.room);
}

-- capacity was requested, and the request may have failed
pub Lengthens-asked : {T R E : Type 0} (r : Result R E) (old new : OpenBuffer T)
    → OnOk r (Lengthens [] old new) → OnErr r (new ≡ old) → Lengthens [] old new
Lengthens-asked (Ok _) old new made kept = made
Lengthens-asked (Err _) old new made kept = rw kept (search rules)
