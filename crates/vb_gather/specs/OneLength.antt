-- The results of calls on several lists that must have the same length.
use Rattle.std.specs.Prelude.{◌≡◌, ◌==◌, not, ℕ, Bool, List, length, Option, Some, None}
use Rattle.std.specs.Prelude.{Result, IfOk, IsErrOf, IsOkUnless}
use Rattle.std.specs.List.{find}
use Rattle.vb_core.specs.declared.error.BufferError.{BufferError}
use Rattle.vb_core.specs.declared.error.BufferError.TheVariants.{OutOfMemory, LengthMismatch}

-- the length of a list if there is one, else n
abbrev pub length_or : ℕ → Option (List Bool) → ℕ
length_or n None = n
length_or n (Some l) = length l

-- the first of the lengths that differs from n, if there is one
abbrev pub first_other : ℕ → List ℕ → Option ℕ
first_other n lengths = find (λ m. not (m == n)) lengths

-- P holds of the result if all lists have length n, and `OutOfMemory` is then the only error.
-- Otherwise the call returns `LengthMismatch` with n and the first other length
pub record GivesOfLength {S : Type 0} (n : ℕ) (lengths : List ℕ) (P : S → Type 0)
    (result : Result S BufferError) : Type 0 where
  pub ok : IfOk result P
  pub same_len : first_other n lengths ≡ None → IsOkUnless result OutOfMemory
  pub other_len : (m : ℕ) → first_other n lengths ≡ Some m → IsErrOf result (LengthMismatch n m)
