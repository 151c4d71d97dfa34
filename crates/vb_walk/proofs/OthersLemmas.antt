-- Words whose digits are all equal.
use Rattle.std.proofs.Common.{◌≡◌, ◌≢◌, inl, inr, ℕ, ◌+◌, ◌-◌, ◌*◌, ◌%◌, ◌^◌, ◌<◌, ◌≤◌, Bool, true}
use Rattle.std.proofs.Common.{false, eqb, List, sym, ap, ◌∙◌, arith}
use Rattle.std.proofs.lemmas.Bool.{cases_lt}
use Rattle.std.proofs.lemmas.Nat.{le_or_l, le_or_r}
use Rattle.std.proofs.lemmas.Nat.Bits.{bit_at_ones}
use Rattle.std.specs.Int.{to_le_bytes, w64}
use Rattle.std.specs.Int.Bits.{bit_or}
use Rattle.std.specs.Prelude.{slice_range}
use Rattle.vb_bits.specs.Bits.{bit_of}
use Rattle.vb_bits.specs.Digits.{has_bit}
use Rattle.vb_bits.proofs.ReadLemmas.{has_bit-bits, digits_of_word}
use Rattle.vb_bits.proofs.WindowLemmas.{digits-clear}
use Rattle.vb_walk.specs.Walks.{others, AreAll, IsOther}

-- a word whose digits are all v
others_none : (v : Bool) (w : ℕ) → w < 2 ^ 64 → others v w ≡ 0 → (i : ℕ) → i < 64 → has_bit w i ≡ v
others_none true w fits e i l =
    let full : w ≡ 2 ^ 64 - 1 = omega arith in
    ap (λ x. has_bit x i) full ∙ ap (λ x. eqb x 1) (bit_at_ones 64 i l)
others_none false w fits e i l = ap (λ x. has_bit x i) e ∙ digits-clear i

-- a digit of a word that was read
pub has_bit_read : (b : List ℕ) (w a i : ℕ)
    → to_le_bytes w64 w ≡ slice_range b a (a + 8) → i < 64 → has_bit w i ≡ bit_of b (8 * a + i)
has_bit_read b w a i read l = has_bit-bits b w (8 * a) 64 i (digits_of_word b w a read) l

-- the bits of such a word that was read
pub AreAll-word : (b : List ℕ) (v : Bool) (w a : ℕ) → w < 2 ^ 64 → to_le_bytes w64 w
    ≡ slice_range b a (a + 8) → others v w ≡ 0 → AreAll b v (8 * a) (8 * (a + 8))
AreAll-word b v w a fits read e = λ i lo hi.
    let place : 8 * a + (i - 8 * a) ≡ i = omega arith in
    ap (bit_of b) (sym place) ∙ sym (has_bit_read b w a (i - 8 * a) read (omega arith))
    ∙ others_none v w fits e (i - 8 * a) (omega arith)

-- no bits
pub AreAll_none : (b : List ℕ) (v : Bool) (a e : ℕ) → e ≤ a → AreAll b v a e
AreAll_none b v a e h = λ i lo hi. absurd (omega arith)

-- the bits of two runs
pub AreAll-add : (b : List ℕ) (v : Bool) (a m e : ℕ)
    → AreAll b v a m → AreAll b v m e → AreAll b v a e
AreAll-add b v a m e one two =
    λ i lo hi. elim (cases_lt i m) [ inl before ↦ one i lo before | inr after ↦ two i after hi ]

-- four numbers that are 0
pub four_zeros : (a b d e : ℕ)
    → bit_or (bit_or a b) (bit_or d e) ≡ 0 → (a ≡ 0) × (b ≡ 0) × (d ≡ 0) × (e ≡ 0)
four_zeros a b d e none =
    let la = le_or_l a b in let lb = le_or_r a b in
    let ld = le_or_l d e in let le = le_or_r d e in
    let l1 = le_or_l (bit_or a b) (bit_or d e) in let l2 = le_or_r (bit_or a b) (bit_or d e) in
    (omega arith, omega arith, omega arith, omega arith)

-- a word with another digit, after words without one
pub IsOther-word : (b : List ℕ) (v : Bool) (w at a end : ℕ) → at ≤ a → a + 8 ≤ end
    → (end - (a + 8)) % 8 ≡ 0 → AreAll b v (8 * at) (8 * a) → to_le_bytes w64 w ≡ slice_range b a
    (a + 8) → w < 2 ^ 64 → others v w ≢ 0 → IsOther b at end v (record { behind = a + 8; word = w })
IsOther-word b v w at a end from within whole passed read fits other =
    let here : a + 8 - 8 ≡ a = omega arith in
    record {
      from = omega arith;
      within = within;
      whole = whole;
      passed = λ i lo hi. passed i lo (omega arith);
      read = λ i l. has_bit_read b w a i read l ∙ ap (λ k. bit_of b (8 * k + i)) (sym here);
      fits = fits;
      other = other;
    }
