-- Texts cut at their first separator.
use Rattle.std.proofs.Common.{◌≡◌, ◌≢◌, ℕ, ◌+◌, ◌<◌, ◌≤◌, false, List, length, get_or, sym, arith}
use Rattle.std.specs.Prelude.{◌==◌}
use Rattle.std.specs.List.{position_or_len}
use Rattle.std.specs.Str.{IsCharBoundary, IsUtf8}
use Rattle.std.proofs.lemmas.Bool.{eqb-true}
use Rattle.std.proofs.lemmas.List.Sums.{passes_at_first, position_or_len_is}
use Rattle.std.proofs.lemmas.Str.{IsCharBoundary-before_ascii, IsCharBoundary-after_ascii}

-- a search that found no separator ends at the end of the bytes
pub searched-all : (c : ℕ) (bytes : List ℕ) (n : ℕ) → n ≤ length bytes → length bytes ≤ n
    → ((k : ℕ) → k < n → (get_or bytes k 0 == c) ≡ false)
    → n ≡ position_or_len (λ b. b == c) bytes
searched-all c bytes n within past other =
    sym (position_or_len_is (λ b. b == c) bytes n 0 within other (λ lt. absurd (omega (arith, lt))))

-- the byte at the first separator is ASCII
low : (c : ℕ) (text : List ℕ) → c < 128 → position_or_len (λ b. b == c) text < length text
    → get_or text (position_or_len (λ b. b == c) text) 0 < 128
low c text ascii lt =
    let found = eqb-true _ _ (passes_at_first (λ b. b == c) text 0 lt) in
    omega (arith, found, ascii)

-- a text can be cut before its first separator
pub cut-before : (c : ℕ) (text : List ℕ) (n : ℕ) → c < 128
    → n ≡ position_or_len (λ b. b == c) text → n ≤ length text → n ≢ length text
    → IsCharBoundary text n
cut-before c text n ascii place within inside =
    let lt : position_or_len (λ b. b == c) text < length text =
    omega (arith, place, within, inside) in
    rw place (IsCharBoundary-before_ascii text _ lt (low c text ascii lt))

-- a text can be cut after its first separator
pub cut-behind : (c : ℕ) (text : List ℕ) (n : ℕ) → c < 128 → IsUtf8 text
    → n ≡ position_or_len (λ b. b == c) text → n ≤ length text → n ≢ length text
    → IsCharBoundary text (n + 1)
cut-behind c text n ascii utf8 place within inside =
    let lt : position_or_len (λ b. b == c) text < length text =
    omega (arith, place, within, inside) in
    rw place (IsCharBoundary-after_ascii text _ utf8 lt (low c text ascii lt))

-- searches for a separator, for `#[tactic(auto, using(..))]`
pub ruleset searches = (position_or_len_is)
