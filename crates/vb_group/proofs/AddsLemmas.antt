-- Rows added to the totals of their groups.
use Rattle.std.proofs.Common.{◌≡◌, ℕ, ℤ, pos, List, [], ◌++◌, map, get_or, refl, sym, ap, ◌∙◌}
use Rattle.std.proofs.Common.{arith}
use Rattle.std.specs.List.{fold, filter}
use Rattle.std.specs.Ordering.{int_eq}
use Rattle.std.proofs.lemmas.List.{map-append}
use Rattle.std.proofs.lemmas.List.Elements.{filter-append}
use Rattle.std.proofs.lemmas.List.Sums.{fold-append}
use Rattle.vb_group.specs.Groups.{values_of, AddsRows}

module _ {C V : Type 0} (number : C → ℤ) where
  -- the values of a group in two lists of rows, one after the other
  pub values_of-append : (g : ℕ) (xs ys : List (C × V))
      → values_of number g (xs ++ ys) ≡ values_of number g xs ++ values_of number g ys
  values_of-append g xs ys =
      let test = λ (row : C × V). int_eq (number row.0) (pos g) in
      ap (map (λ row. row.1)) (filter-append test xs ys)
      ∙ map-append (λ row. row.1) (filter test xs) (filter test ys)

  module _ {T : Type 0} (plus : T → V → T) where
    -- no rows
    pub adds_nothing : (old : List T) → AddsRows number plus old old []
    adds_nothing old = record { same_len = refl; each = λ g d inside. refl }

    -- rows, and others after them
    pub adds_both : (old mid new : List T) (xs ys : List (C × V)) → AddsRows number plus old mid xs
        → AddsRows number plus mid new ys → AddsRows number plus old new (xs ++ ys)
    adds_both old mid new xs ys first last = record {
      same_len = last.same_len ∙ first.same_len;
      each = λ g d inside.
          last.each g d (omega (arith, first.same_len))
          ∙ ap (λ t. fold plus t (values_of number g ys)) (first.each g d inside)
          ∙ sym (fold-append plus (get_or old g d) (values_of number g xs) (values_of number g ys))
          ∙ ap (fold plus (get_or old g d)) (sym (values_of-append g xs ys));
    }
