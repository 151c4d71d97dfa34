-- The number of bytes of items.
use Rattle.std.proofs.Common.{◌≡◌, ℕ, ◌*◌, List, [], ◌∷◌, length, arith}
use Rattle.std.proofs.lemmas.List.{length-append}
use Rattle.std.proofs.lemmas.List.Elements.{All-head, All-tail}
use Rattle.std.specs.List.{All}
use Rattle.vb_core.specs.ByteForm.{byteform}
use Rattle.vb_core.specs.Elements.{IsElement}

module _ {T : Type 0} (size align align_exponent : ℕ) (is_in_type : T → Type 0)
    (form : T → List ℕ) (value_of : List ℕ → T)
    (laws : IsElement size align align_exponent is_in_type form value_of) where
  -- each item has the size of its type
  pub length-byteform : (xs : List T) → All is_in_type xs
      → length (byteform form xs) ≡ length xs * size
  length-byteform [] valid = omega arith
  length-byteform (x ∷ xs) valid =
      let long = laws.form_has_size x (All-head is_in_type x xs valid) in
      let rest = length-byteform xs (All-tail is_in_type x xs valid) in
      omega (arith, length-append (form x) (byteform form xs))
