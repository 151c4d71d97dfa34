-- The lines of an input, one line feed after the other.
use mathlib.Core.Logic.{inl, inr}
use Rattle.std.proofs.Common.{◌≡◌, ℕ, suc, ◌+◌, ◌-◌, ◌<◌, ◌≤◌, false, cond, List, []}
use Rattle.std.proofs.Common.{◌∷◌, ◌++◌, length}
use Rattle.std.proofs.Common.{get_or, take, drop, refl, sym, ap, ◌∙◌, Some, None, arith, eqb}
use Rattle.std.proofs.Common.{add-one}
use Rattle.std.specs.Prelude.{position, count_by}
use Rattle.std.specs.List.{All, slice_split, position_or_len}
use Rattle.std.specs.Str.Lines.{lines, lines_of_parts, strip_carriage_return}
use Rattle.std.proofs.Math.ListN.{get_or-eq_default}
use Rattle.std.proofs.lemmas.List.{get_or-take, length-take-le, take-take}
use Rattle.std.proofs.lemmas.List.Quantifiers.{position-Some}
use Rattle.std.proofs.lemmas.List.Splits.{slice_split_none, slice_split_at, length-slice_split}
use Rattle.std.proofs.lemmas.List.Sums.{fails_before_first, sum_by-append}
use Rattle.std.proofs.lemmas.Bool.{eqb-true, eq-eqb, ne_eqb, cases_lt}
use Rattle.std.proofs.lemmas.Grind.{common_steps}
use Rattle.std.proofs.Math.Seq.{split_at}

-- none of these bytes is a line feed
abbrev pub IsWithinLine : List ℕ → Type 0
IsWithinLine bytes = All (λ b. eqb b 10 ≡ false) bytes

-- the number of line feeds
abbrev pub line_feeds : List ℕ → ℕ
line_feeds bytes = count_by (λ b. eqb b 10) bytes

-- a line without the carriage return at its end
pub strip-cut : (bytes : List ℕ) (at : ℕ) → at ≤ length bytes → 0 < at
    → get_or bytes (at - 1) 0 ≡ 13
    → take (at - 1) bytes ≡ strip_carriage_return (take at bytes)
strip-cut bytes at within some return =
    let line : List ℕ = take at bytes in
    let size : length line ≡ at = length-take-le at bytes within in
    let last : get_or line (length line - 1) 0 ≡ 13 =
    rw size (get_or-take at bytes (at - 1) 0 (omega arith) ∙ return) in
    sym (ap (λ b. cond b (take (length line - 1) line) line) (eq-eqb _ _ last)
    ∙ ap (λ n. take (n - 1) line) size ∙ take-take (at - 1) at bytes (omega arith))

-- a line that has no carriage return at its end
pub strip-whole : (bytes : List ℕ) (at : ℕ) → at ≤ length bytes
    → (0 < at → get_or bytes (at - 1) 0 ≡ 13 → ⊥)
    → take at bytes ≡ strip_carriage_return (take at bytes)
strip-whole bytes at within other =
    let line : List ℕ = take at bytes in
    let size : length line ≡ at = length-take-le at bytes within in
    sym (ap (λ b. cond b (take (length line - 1) line) line)
    (ne_eqb (get_or line (length line - 1) 0) 13 (elim (cases_lt 0 at) [
      | inl some ↦ λ is. other some (sym (get_or-take at bytes (at - 1) 0 (omega arith))
          ∙ (rw size at is))
      | inr none ↦ λ is.
          let past : length line ≤ length line - 1 = omega (arith, size) in
          absurd (omega (arith, is, get_or-eq_default line 0 past))
    ])))

-- the end of a line, for `#[tactic(auto, using(..))]`
pub ruleset fronts = (strip-cut, strip-whole)

lines_of_parts-cons : (x : List ℕ) (parts : List (List ℕ)) → 0 < length parts
    → lines_of_parts (x ∷ parts) ≡ strip_carriage_return x ∷ lines_of_parts parts
lines_of_parts-cons x [] l = absurd (omega arith)
lines_of_parts-cons x (y ∷ more) l = refl

-- the first line, which ends with a line feed
pub lines-line_feed : (line more : List ℕ) → IsWithinLine line
    → lines (line ++ 10 ∷ more) ≡ strip_carriage_return line ∷ lines more
lines-line_feed line more h =
    ap lines_of_parts (slice_split_at (λ b. eqb b 10) line 10 more h refl)
    ∙ lines_of_parts-cons line (slice_split (λ b. eqb b 10) more)
    (omega (arith, length-slice_split (λ b. eqb b 10) more))

-- a line without a line feed at its end is the only one
pub lines-last : (line : List ℕ) → IsWithinLine line → 0 < length line → lines line ≡ line ∷ []
lines-last line h some = ap lines_of_parts (slice_split_none (λ b. eqb b 10) line h)
    ∙ ap (λ b. cond b [] (line ∷ [])) (ne_eqb (length line) 0 (λ e. omega arith))

-- there is no line feed before the first one
pub within_first : (bytes : List ℕ) (at : ℕ) → position (λ b. eqb b 10) bytes ≡ Some at
    → IsWithinLine (take at bytes)
within_first bytes at e = λ k d lt.
    let within : k < at = grind (arith, common_steps) in
    ap (λ b. eqb b 10) (get_or-take at bytes k d within)
    ∙ (position-Some (λ b. eqb b 10) bytes at d e).2 k within

-- the bytes, cut at the first line feed
pub cut_at_line_feed : (bytes : List ℕ) (at : ℕ) → position (λ b. eqb b 10) bytes ≡ Some at
    → bytes ≡ take at bytes ++ 10 ∷ drop (at + 1) bytes
cut_at_line_feed bytes at e =
    let found = position-Some (λ b. eqb b 10) bytes at 0 e in
    split_at bytes at 0 found.0
    ∙ (ap (λ x. take at bytes ++ x ∷ drop (suc at) bytes) (eqb-true (get_or bytes at 0) 10 found.1)
    ∙ ap (λ k. take at bytes ++ 10 ∷ drop k bytes) (sym (add-one at)))

-- if a search finds no line feed, there is none
pub within_all : (bytes : List ℕ) → position (λ b. eqb b 10) bytes ≡ None → IsWithinLine bytes
within_all bytes e =
    let past : length bytes ≤ position_or_len (λ b. eqb b 10) bytes = grind (arith, common_steps) in
    λ k d lt. fails_before_first (λ b. eqb b 10) bytes k d (omega arith)

-- the line feeds of two parts
pub line_feeds-append : (xs ys : List ℕ) → line_feeds (xs ++ ys) ≡ line_feeds xs + line_feeds ys
line_feeds-append xs ys = sum_by-append (λ b. cond (eqb b 10) 1 0) xs ys

-- a part of a line has no line feed
pub line_feeds-within : (bytes : List ℕ) → IsWithinLine bytes → line_feeds bytes ≡ 0
line_feeds-within [] h = refl
line_feeds-within (x ∷ xs) h =
    let here : line_feeds (x ∷ []) ≡ 0 = ap (λ b. 0 + cond b 1 0) (h 0 x (omega arith)) in
    let rest : line_feeds xs ≡ 0 = line_feeds-within xs (λ k d lt. h (suc k) d (omega (arith, lt)))
    in
    omega (arith, line_feeds-append (x ∷ []) xs, here, rest)
