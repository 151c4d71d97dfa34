-- Items and their bytes determine each other.
use Rattle.std.proofs.Common.{◌≡◌, ℕ, ◌<◌, List, [], ◌∷◌, length, take, drop}
use Rattle.std.proofs.Common.{refl, sym, ap, ◌∙◌, arith}
use Rattle.std.proofs.lemmas.List.{length-append}
use Rattle.std.proofs.lemmas.List.Elements.{All-head, All-tail}
use Rattle.std.proofs.Math.Seq.{take-append_seam, drop-append_seam}
use Rattle.std.specs.List.{All}
use Rattle.vb_core.specs.Elements.{IsElement}
use Rattle.vb_core.specs.ByteForm.{byteform}

module _ {T : Type 0} (size align align_exponent : ℕ) (is_in_type : T → Type 0)
    (form : T → List ℕ) (value_of : List ℕ → T)
    (laws : IsElement size align align_exponent is_in_type form value_of) where
  -- an item has at least one byte, so only the empty list has no bytes
  byteform-some : (x : T) (xs : List T) → is_in_type x → 0 < length (byteform form (x ∷ xs))
  byteform-some x xs valid =
      let long = laws.form_has_size x valid in
      let some = laws.size_is_positive in
      omega (arith, length-append (form x) (byteform form xs))

  -- lists of values of the type that have the same bytes are the same
  pub byteform-injective : (xs ys : List T) → All is_in_type xs → All is_in_type ys
      → byteform form xs ≡ byteform form ys → xs ≡ ys
  byteform-injective [] [] xs_valid ys_valid same = refl
  byteform-injective [] (y ∷ ys) xs_valid ys_valid same =
      let some = byteform-some y ys (All-head is_in_type y ys ys_valid) in
      let none : length (byteform form (y ∷ ys)) ≡ 0 = ap length (sym same) in
      absurd (omega (arith, some, none))
  byteform-injective (x ∷ xs) [] xs_valid ys_valid same =
      let some = byteform-some x xs (All-head is_in_type x xs xs_valid) in
      let none : length (byteform form (x ∷ xs)) ≡ 0 = ap length same in
      absurd (omega (arith, some, none))
  byteform-injective (x ∷ xs) (y ∷ ys) xs_valid ys_valid same =
      let x_valid = All-head is_in_type x xs xs_valid in
      let y_valid = All-head is_in_type y ys ys_valid in
      let long : length (form x) ≡ length (form y) =
      laws.form_has_size x x_valid ∙ sym (laws.form_has_size y y_valid) in
      let first : form x ≡ form y =
      sym (take-append_seam (form x) (byteform form xs))
      ∙ ap (take (length (form x))) same
      ∙ ap (λ n. take n (byteform form (y ∷ ys))) long
      ∙ take-append_seam (form y) (byteform form ys) in
      let others : byteform form xs ≡ byteform form ys =
      sym (drop-append_seam (form x) (byteform form xs))
      ∙ ap (drop (length (form x))) same
      ∙ ap (λ n. drop n (byteform form (y ∷ ys))) long
      ∙ drop-append_seam (form y) (byteform form ys) in
      let item : x ≡ y =
      sym (laws.get_after_put x x_valid) ∙ ap value_of first ∙ laws.get_after_put y y_valid in
      ap (λ z. z ∷ xs) item
      ∙ ap (λ zs. y ∷ zs)
      (byteform-injective xs ys (All-tail is_in_type x xs xs_valid)
      (All-tail is_in_type y ys ys_valid) others)
