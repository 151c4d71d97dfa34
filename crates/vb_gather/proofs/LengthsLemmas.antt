-- Lists whose lengths were compared.
use Rattle.std.proofs.Common.{◌≡◌, ℕ, Bool, true, false, not, eqb, cond, List, [], ◌∷◌, length}
use Rattle.std.proofs.Common.{Option, Some, None, refl, sym, ap, subst, ◌∙◌}
use Rattle.std.specs.Prelude.{Result, Err}
use Rattle.std.specs.Option.{ForSome, option_map}
use Rattle.std.proofs.lemmas.Bool.{eqb-true}
use Rattle.std.proofs.lemmas.Option.{none-some, same_Some}
use Rattle.vb_core.specs.declared.error.BufferError.{BufferError}
use Rattle.vb_core.specs.declared.error.BufferError.TheVariants.{LengthMismatch}
use Rattle.vb_gather.specs.OneLength.{GivesOfLength, first_other, length_or}
use Rattle.vb_mem.specs.Makes.{Makes}

first_is : (b : Bool) (m : ℕ) (rest : Option ℕ) → cond (not b) (Some m) rest ≡ None → b ≡ true
first_is true m rest none = refl
first_is false m rest none = absurd (none-some m (sym none))

rest_is : (b : Bool) (m : ℕ) (rest : Option ℕ) → cond (not b) (Some m) rest ≡ None
    → rest ≡ None
rest_is true m rest none = none
rest_is false m rest none = absurd (none-some m (sym none))

-- if no length differs from n, the first length is n
pub first_len : (n m : ℕ) (rest : List ℕ) → first_other n (m ∷ rest) ≡ None → m ≡ n
first_len n m rest none = eqb-true m n (first_is (eqb m n) m (first_other n rest) none)

-- if no length differs from n, no later length does
pub rest_lens : (n m : ℕ) (rest : List ℕ) → first_other n (m ∷ rest) ≡ None
    → first_other n rest ≡ None
rest_lens n m rest none = rest_is (eqb m n) m (first_other n rest) none

-- a list, if there is one, has the length n
pub as_long : {V : Type 0} (bits : V → List Bool) (n : ℕ) (v : Option V)
    → length_or n (option_map bits v) ≡ n → ForSome v (λ x. length (bits x) ≡ n)
as_long bits n None same = λ x is. absurd (none-some x is)
as_long bits n (Some l) same = λ x is.
    ap (λ k. length (bits k)) (sym (same_Some l x is)) ∙ same

-- the result of a call on lists of one length
pub gives_made : {S : Type 0} (n : ℕ) (lengths : List ℕ) (P : S → Type 0)
    (result : Result S BufferError) → first_other n lengths ≡ None → Makes P result
    → GivesOfLength n lengths P result
gives_made n lengths P result none made = record {
  ok = made.ok;
  same_len = λ _. made.refused;
  other_len = λ m found. absurd (none-some m (sym none ∙ found));
}

-- a call on lists of another length returns an error
pub gives_refused : {S : Type 0} (n : ℕ) (lengths : List ℕ) (P : S → Type 0) (m : ℕ)
    → first_other n lengths ≡ Some m → GivesOfLength n lengths P (Err (LengthMismatch n m))
gives_refused n lengths P m found = record {
  ok = tt;
  same_len = λ none. absurd (none-some m (sym none ∙ found));
  other_len = λ k there. ap (λ j. Err (LengthMismatch n j)) (same_Some m k (sym found ∙ there));
}

-- the lengths that the call reads are the lengths of the lists
pub gives_read : {S : Type 0} (n k m j : ℕ) (l r : ℕ → ℕ) (P : S → Type 0)
    (result : Result S BufferError) → n ≡ k → m ≡ j
    → GivesOfLength n (m ∷ l n ∷ r n ∷ []) P result
    → GivesOfLength k (j ∷ l k ∷ r k ∷ []) P result
gives_read n k m j l r P result e f given =
    subst (λ x. GivesOfLength x (j ∷ l x ∷ r x ∷ []) P result) e
    (subst (λ x. GivesOfLength n (x ∷ l n ∷ r n ∷ []) P result) f given)
