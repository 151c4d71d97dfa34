-- Bytes that are text.
use Rattle.std.specs.Prelude.{◌≡◌, ℕ, List}
use Rattle.std.specs.Str.{IsUtf8, IsValidUpTo}
use Rattle.vb_core.specs.declared.error.BufferError.{BufferError}
use Rattle.vb_core.specs.declared.error.BufferError.TheVariants.{NotUtf8}

-- the bytes are not UTF-8, and the error is `NotUtf8` with the length of their longest valid prefix
abbrev pub IsNoText : List ℕ → BufferError → Type 0
IsNoText bytes error = ¬ (IsUtf8 bytes) × (n : ℕ) × IsValidUpTo bytes n × (error ≡ NotUtf8 n)
