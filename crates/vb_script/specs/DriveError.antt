-- The errors of a session.
use Rattle.std.specs.Prelude.{◌≡◌, ℕ, ◌+◌, Result, Ok, Err}
use Rattle.vb_script.specs.declared.error.DriveError.{DriveError}
use Rattle.vb_script.specs.declared.error.DriveError.TheVariants.{Unreadable, Read, Write, Memory}

-- P, unless a write failed
abbrev pub UnlessWrite : {X : Type 0} → Result X DriveError → Type 0 → Type 0
UnlessWrite (Ok x) P = P
UnlessWrite (Err (Unreadable line)) P = P
UnlessWrite (Err Read) P = P
UnlessWrite (Err Write) P = Unit {0}
UnlessWrite (Err Memory) P = P

-- the number of failed reads before and after: one more if a read failed
abbrev pub FailsReads : {X : Type 0} → Result X DriveError → ℕ → ℕ → Type 0
FailsReads (Ok x) faults faults' = faults' ≡ faults
FailsReads (Err (Unreadable line)) faults faults' = faults' ≡ faults
FailsReads (Err Read) faults faults' = faults' ≡ faults + 1
FailsReads (Err Write) faults faults' = faults' ≡ faults
FailsReads (Err Memory) faults faults' = faults' ≡ faults

-- the number of failed writes before and after: one more if a write failed
abbrev pub FailsWrites : {X : Type 0} → Result X DriveError → ℕ → ℕ → Type 0
FailsWrites (Ok x) faults faults' = faults' ≡ faults
FailsWrites (Err (Unreadable line)) faults faults' = faults' ≡ faults
FailsWrites (Err Read) faults faults' = faults' ≡ faults
FailsWrites (Err Write) faults faults' = faults' ≡ faults + 1
FailsWrites (Err Memory) faults faults' = faults' ≡ faults

-- P holds if a read or an allocation failed, and the error is one of these
abbrev pub FailsReading : DriveError → Type 0 → Type 0
FailsReading (Unreadable line) P = ⊥
FailsReading Read P = P
FailsReading Write P = ⊥
FailsReading Memory P = P
