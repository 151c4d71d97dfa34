-- Lines of ASCII bytes, and lines with other bytes.
use Rattle.std.proofs.Common.{◌≡◌, ℕ, ◌<◌, ◌≤◌, true, false, List, length, get_or, arith, ltb}
use Rattle.std.proofs.Common.{lt-ltb, ltb-true}
use Rattle.std.specs.Str.{IsAscii, IsNotAscii}
pub use Rattle.std.proofs.lemmas.Str.{IsUtf8-from_ascii}
use Rattle.std.proofs.Math.ListN.{get_or-eq_default}
use Rattle.std.proofs.lemmas.Bool.{false_from_ne_true}
use Rattle.std.proofs.lemmas.List.{get_or_default}
use Rattle.std.proofs.lemmas.List.Sums.{list_all-from_AllPass, AllPass-from_list_all}
use Rattle.vb_command.specs.Reading.{all_ascii}

-- a line of ASCII bytes passes the test
pub all_ascii-true : (line : List ℕ) → IsAscii line → all_ascii line ≡ true
all_ascii-true line ascii =
    list_all-from_AllPass (λ b. ltb b 128) line (λ k d lt.
    lt-ltb (get_or line k d) 128 (omega (arith, ascii k, get_or_default line k d 0 lt)))

-- a byte that is not ASCII is within the line
high-inside : (line : List ℕ) (i : ℕ) → 128 ≤ get_or line i 0 → i < length line
high-inside line i high =
    let past : length line ≤ i → get_or line i 0 ≡ 0 = λ le. get_or-eq_default line 0 le in
    grind (arith, past)

-- a line with a byte that is not ASCII fails the test
pub all_ascii-false : (line : List ℕ) → IsNotAscii line → all_ascii line ≡ false
all_ascii-false line (i, high) =
    false_from_ne_true _ (λ t.
    let within = high-inside line i high in
    let low = ltb-true _ _ (AllPass-from_list_all (λ b. ltb b 128) line t i 0 within) in
    omega arith)

-- the test for ASCII, and ASCII as UTF-8
pub ruleset ascii = (all_ascii-true, all_ascii-false, IsUtf8-from_ascii)
