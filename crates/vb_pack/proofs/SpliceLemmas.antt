-- A word written over digits that are 0.
use Rattle.std.proofs.Common.{◌≡◌, ◌≢◌, inl, inr, ℕ, ◌+◌, ◌-◌, ◌*◌, ◌/◌, ◌%◌, ◌^◌, ◌<◌, ◌≤◌, Bool}
use Rattle.std.proofs.Common.{true, false, ◌||◌, List, length, get_or, eqb, refl, sym, ap, ◌∙◌}
use Rattle.std.proofs.Common.{arith, zero-add}
use Rattle.std.specs.Int.Bits.{bit_or}
use Rattle.std.proofs.lemmas.Bool.{cases_lt, cases_eq}
use Rattle.vb_bits.specs.Digits.{has_bit, digits}
use Rattle.vb_bits.proofs.DigitsLemmas.{length-digits, at-digits, has_bit-or}
use Rattle.vb_bits.proofs.ShiftLemmas.{has_bit_shr, shl_low, shl_high, bit_at_cut}
use Rattle.vb_pack.specs.WordBits.{word_bit, WritesWords}
use Rattle.vb_pack.proofs.WordsLemmas.{has_bit_above, WritesWords_by_digits}

-- the digits of a number shifted up within a word
shifted_low : (w s j : ℕ) → j < s → j < 64 → has_bit (w * 2 ^ s % 2 ^ 64) j ≡ false
shifted_low w s j low h = ap (λ x. eqb x 1) (bit_at_cut (w * 2 ^ s) 64 j h ∙ shl_low w s j low)

shifted_high : (w s j : ℕ) → s ≤ j → j < 64 → has_bit (w * 2 ^ s % 2 ^ 64) j ≡ has_bit w (j - s)
shifted_high w s j high h = ap (λ x. eqb x 1) (bit_at_cut (w * 2 ^ s) 64 j h ∙ shl_high w s j high)

or_false : (x : Bool) → (x || false) ≡ x
or_false true = refl
or_false false = refl

-- a digit of the first word, below the splice and from it on
joined_low : (v w s j : ℕ)
    → j < s → j < 64 → has_bit (bit_or v (w * 2 ^ s % 2 ^ 64)) j ≡ has_bit v j
joined_low v w s j low h = has_bit-or v (w * 2 ^ s % 2 ^ 64) j
    ∙ ap (λ x. has_bit v j || x) (shifted_low w s j low h) ∙ or_false (has_bit v j)

joined_high : (v w s j : ℕ) → s ≤ j
    → j < 64 → has_bit v j ≡ false → has_bit (bit_or v (w * 2 ^ s % 2 ^ 64)) j ≡ has_bit w (j - s)
joined_high v w s j high h clear = has_bit-or v (w * 2 ^ s % 2 ^ 64) j
    ∙ ap (λ x. x || has_bit (w * 2 ^ s % 2 ^ 64) j) clear ∙ shifted_high w s j high h

-- the words after a splice: the first word joined with the low digits, and the next word with those
-- shifted out
pub record IsSpliced (b c : List ℕ) (at word : ℕ) : Type 0 where
  pub same_len : length c ≡ length b
  pub first : get_or c (at / 64) 0 ≡ bit_or (get_or b (at / 64) 0) (word * 2 ^ (at % 64) % 2 ^ 64)
  pub next : (j : ℕ)
      → j < 64 → has_bit (get_or c (at / 64 + 1) 0) j ≡ has_bit (word / 2 ^ (64 - at % 64)) j
  pub others : (k : ℕ) → k ≢ at / 64 → k ≢ at / 64 + 1 → get_or c k 0 ≡ get_or b k 0

-- a digit of the words is a digit of its word
digit_of : (c : List ℕ) (i k x : ℕ)
    → i / 64 ≡ k → get_or c k 0 ≡ x → word_bit c i ≡ has_bit x (i % 64)
digit_of c i k x word e =
    ap (λ j. has_bit (get_or c j 0) (i % 64)) word ∙ ap (λ y. has_bit y (i % 64)) e

pub WritesWords_splice : (b c : List ℕ) (at word : ℕ) → word < 2 ^ 64 → IsSpliced b c at word
    → ((i : ℕ) → at ≤ i → word_bit b i ≡ false) → WritesWords b c at (digits word 0 64)
WritesWords_splice b c at word small spliced clear =
    let k : ℕ = at / 64 in let s : ℕ = at % 64 in
    let v : ℕ = get_or b k 0 in
    let long : length (digits word 0 64) ≡ 64 = length-digits word 0 64 in
    let digit : (i : ℕ) (d : Bool) → i < 64 → has_bit word i ≡ get_or (digits word 0 64) i d =
    λ i d h. sym (at-digits word 0 64 i d h ∙ ap (has_bit word) (zero-add i)) in
    let old : (i : ℕ) → i / 64 ≡ k → word_bit b i ≡ has_bit v (i % 64) =
    λ i e. digit_of b i k v e refl in
    WritesWords_by_digits b c at (digits word 0 64) spliced.same_len
    (λ i d h. elim (cases_lt (s + i) 64) [
      | inl here ↦
          let place : (at + i) / 64 ≡ k = omega arith in
          let low : s ≤ (at + i) % 64 = omega arith in
          let back : (at + i) % 64 - s ≡ i = omega arith in
          digit_of c (at + i) k _ place spliced.first
          ∙ joined_high v word s ((at + i) % 64) low
          (omega arith) (sym (old (at + i) place) ∙ clear (at + i) (omega arith))
          ∙ ap (has_bit word) back ∙ digit i d (omega arith)
      | inr behind ↦
          let place : (at + i) / 64 ≡ k + 1 = omega arith in
          let back : 64 - s + (at + i) % 64 ≡ i = omega arith in
          digit_of c (at + i) (k + 1) _ place refl ∙ spliced.next ((at + i) % 64) (omega arith)
          ∙ has_bit_shr word (64 - s) ((at + i) % 64)
          ∙ ap (has_bit word) back ∙ digit i d (omega arith)
    ])
    (λ i h. elim (cases_eq (i / 64) k) [
      | inl here ↦
          let low : i % 64 < s =
          elim h [ inl before ↦ omega arith | inr behind ↦ absurd (omega arith) ] in
          digit_of c i k _ here spliced.first ∙ joined_low v word s (i % 64) low (omega arith)
          ∙ sym (old i here)
      | inr other ↦ elim (cases_eq (i / 64) (k + 1)) [
        | inl place ↦
            let behind : at + 64 ≤ i =
            elim h [ inl before ↦ absurd (omega arith) | inr past ↦ omega arith ] in
            digit_of c i (k + 1) _ place refl
            ∙ spliced.next (i % 64) (omega arith) ∙ has_bit_shr word (64 - s) (i % 64)
            ∙ has_bit_above word 64 (64 - s + i % 64) small (omega arith)
            ∙ sym (clear i (omega arith))
        | inr apart ↦ ap (λ x. has_bit x (i % 64)) (spliced.others (i / 64) other apart)
      ]
    ])
