-- The result of a call that grows a set.
use Rattle.std.specs.Prelude.{ℕ, ◌-◌, ◌^◌, ◌<◌, Result, Ok, Err}
use Rattle.vb_set.specs.declared.BufferError.{BufferError}
use Rattle.vb_set.specs.declared.BufferError.TheVariants.{OutOfMemory, TooManyBits}

-- n fits in 64 bits if the call succeeds or runs out of memory; if it returns `TooManyBits`, n is
-- more than 2 ^ 64 - 8
abbrev pub LimitsLength : {T : Type 0} → ℕ → Result T BufferError → Type 0
LimitsLength n (Ok x) = n < 2 ^ 64
LimitsLength n (Err OutOfMemory) = n < 2 ^ 64
LimitsLength n (Err TooManyBits) = 2 ^ 64 - 8 < n
LimitsLength n (Err e) = ⊥
