-- Alignments that are part of a type.
use Rattle.std.specs.Prelude.{◌≡◌, ℕ, ◌^◌, ◌≤◌, List}
use Rattle.vb_mem.specs.SharedBuffer.{SharedBuffer, IsAlignedTo, ShowsMade}

-- P holds of the exponent of n bytes
abbrev pub OfBytes : ℕ → (ℕ → Type 0) → Type 0
OfBytes n P = (exponent : ℕ) → 2 ^ exponent ≡ n → P exponent

-- the buffer is aligned to n bytes, and reports n bytes or more
abbrev pub HasAlignment : {T : Type 0} → ℕ → SharedBuffer T → Type 0
HasAlignment n b = OfBytes n (λ exponent. (exponent ≤ b.alignment) × IsAlignedTo b exponent)

-- the buffer has these items in newly made storage, and reports n bytes
abbrev pub ShowsFixed : {T : Type 0} → List T → ℕ → SharedBuffer T → Type 0
ShowsFixed items n b = OfBytes n (λ exponent. ShowsMade items exponent b)
