-- The count of a stream's faults.
use Rattle.std.specs.Prelude.{◌≡◌, ℕ, ◌+◌, Result, MatchResult}
use Rattle.vb_script.specs.declared.fault.Fault.{Fault}

-- the number of failed calls before and after: one more if a call failed
abbrev pub CountsFault : {X : Type 0} → Result X Fault → ℕ → ℕ → Type 0
CountsFault r faults faults' = MatchResult r (λ x. faults' ≡ faults) (λ e. faults' ≡ faults + 1)
