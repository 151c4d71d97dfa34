-- Bits set at indices, one after another.
use Rattle.std.proofs.Common.{◌≡◌, ◌⊎◌, inl, inr, ℕ, ◌+◌, ◌<◌, ◌≤◌, Bool, true, false, ◌||◌, eqb}
use Rattle.std.proofs.Common.{List, [], ◌∷◌, ◌++◌, length, refl, sym, ap, ◌∙◌, arith}
use Rattle.std.proofs.Common.{zero-add}
use Rattle.std.specs.List.{list_any}
use Rattle.std.proofs.lemmas.Bool.{cases_eq, cases_lt, eq-eqb, eqb-true, false_from_ne_true}
use Rattle.std.proofs.lemmas.List.{same_lists}
use Rattle.std.proofs.lemmas.List.Folds.{list_any-append}
use Rattle.std.proofs.lemmas.List.FromFn.{length-map-range_with_len, get_or-map-range_with_len}
use Rattle.vb_bits.specs.Bits.{bit_of, bits, at}
use Rattle.vb_bits.specs.Writes.{Writes}
use Rattle.vb_bits.proofs.BitsLemmas.{length-bits, at-bits}
use Rattle.vb_bits.proofs.WritesLemmas.{Writes-at}
use Rattle.vb_bits.specs.Marks.{with_true}

-- in the first n bits, the bits at these indices are set and the others are unchanged
abbrev pub MarkedAt : ℕ → List ℕ → List ℕ → List ℕ → Type 0
MarkedAt n places old new = (i : ℕ) → i < n
    → bit_of new i ≡ (bit_of old i || list_any (λ p. eqb p i) places)

-- or with a truth value
or_true : (b : Bool) → (b || true) ≡ true
or_true true = refl
or_true false = refl

or_false : (b : Bool) → (b || false) ≡ b
or_false true = refl
or_false false = refl

-- one more index
pub MarkedAt-bit : (n p : ℕ) (ps : List ℕ) (old out new : List ℕ)
    → MarkedAt n ps old out → Writes out new p (true ∷ []) → MarkedAt n (ps ++ p ∷ []) old new
MarkedAt-bit n p ps old out new before w = λ i h.
    let any : List ℕ → Bool = list_any (λ q. eqb q i) in
    let next : (bit_of old i || any (ps ++ p ∷ [])) ≡ (bit_of old i || (any ps || eqb p i)) =
    ap (λ b. bit_of old i || b)
    (list_any-append (λ q. eqb q i) ps (p ∷ []) ∙ ap (λ b. any ps || b) (or_false (eqb p i))) in
    elim (cases_eq i p) [
      | inl same ↦
          let bit : bit_of new (p + 0) ≡ true =
          Writes-at out new p 0 (true ∷ []) false w (omega arith) in
          let place : i ≡ p + 0 = omega arith in
          ap (bit_of new) place ∙ bit
          ∙ sym (next ∙ ap (λ b. bit_of old i || (any ps || b)) (eq-eqb p i (sym same))
          ∙ ap (λ b. bit_of old i || b) (or_true (any ps)) ∙ or_true (bit_of old i))
      | inr other ↦
          let none : eqb p i ≡ false =
          false_from_ne_true (eqb p i) (λ e. other (sym (eqb-true p i e))) in
          w.others i (apart i p other) ∙ before i h
          ∙ sym (next
          ∙ ap (λ b. bit_of old i || b) (ap (λ b. any ps || b) none ∙ or_false (any ps)))
    ]
  where
    apart : (i p : ℕ) → (i ≡ p → ⊥) → (i < p) ⊎ (p + 1 ≤ i)
    apart i p ne = elim (cases_lt i p) [ inl low ↦ inl low | inr high ↦ inr (omega (arith, ne)) ]

-- all indices
pub with_true-all : (n : ℕ) (ps old new : List ℕ)
    → MarkedAt n ps old new → bits new 0 n ≡ with_true (bits old 0 n) ps
with_true-all n ps old new marked =
    let l : List Bool = bits old 0 n in
    let f : ℕ → Bool = λ i. at l i || list_any (λ p. eqb p i) ps in
    let size : length l ≡ n = length-bits old 0 n in
    same_lists _ _ (length-bits new 0 n ∙ sym (length-map-range_with_len f 0 (length l) ∙ size))
    (λ i d h.
    let low : i < n = omega (arith, length-bits new 0 n) in
    at-bits new 0 n i d low ∙ ap (bit_of new) (zero-add i) ∙ marked i low
    ∙ ap (λ b. b || list_any (λ p. eqb p i) ps)
    (sym (at-bits old 0 n i false low ∙ ap (bit_of old) (zero-add i)))
    ∙ sym (get_or-map-range_with_len f 0 (length l) i i d (omega arith) (zero-add i)))
