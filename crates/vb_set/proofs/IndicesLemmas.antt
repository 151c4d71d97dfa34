-- Sets made from an iterator's numbers, if the list of these numbers is known.
use Rattle.std.proofs.Common.{◌≡◌, ℕ, ◌<◌, List, length, Option, Some, None, refl, ◌∙◌, sym}
use Rattle.std.proofs.Common.{arith, map-id}
use Rattle.std.proofs.lemmas.Grind.{get_or_default_zero}
use Rattle.std.proofs.lemmas.Iterator.{YieldsList}
use Rattle.std.proofs.lemmas.Iterator.Consumers.{YieldsList-turn, YieldsList-end}
use Rattle.std.proofs.lemmas.List.Elements.{All-get_or}
use Rattle.std.specs.Iterator.{Drains}
use Rattle.std.specs.Prelude.{All}
use Rattle.vb_bits.specs.Marks.{FirstNotBelow}

module _ {S : Type 0} {steps : S → Option ℕ → S → Type 0} {s : S} {all : List ℕ}
    (road : YieldsList steps (λ x. x) s all) where
  -- the items that the iterator returned are the list
  pub items_are : (items : List ℕ) → Drains steps s items → items ≡ all
  items_are items (u, (t, run, step)) =
      sym (map-id items) ∙ (YieldsList-end road items t run None u refl step).0

  -- if each number of the list is below n, no number is the first that is not
  pub none_past : (n index : ℕ) → All (λ p. p < n) all → FirstNotBelow steps n s index → ⊥
  none_past n index below (places, u, (t, run, step), front, past) =
      let turn = YieldsList-turn road places t run (Some index) u index refl step in
      let zero = get_or_default_zero all (length places) index turn.0 in
      omega (arith, turn.1, zero, All-get_or (λ p. p < n) all (length places) 0 turn.0 below, past)
