-- Writes of some digits of a word of bytes.
use Rattle.std.proofs.Common.{◌≡◌, ◌⊎◌, inl, inr, ℕ, ◌+◌, ◌-◌, ◌*◌, ◌/◌, ◌%◌, ◌^◌, ◌<◌, ◌≤◌, eqb}
use Rattle.std.proofs.Common.{false, max, min, List, length, get_or, set, sym, ap, subst, ◌∙◌}
use Rattle.std.proofs.Common.{arith, zero-add}
use Rattle.std.specs.Prelude.{bit_and, bit_or}
use Rattle.std.specs.Int.{bit_at, bit_not, w64}
use Rattle.std.proofs.lemmas.Bool.{cases_lt}
use Rattle.std.proofs.lemmas.Nat.{shr-shr, mod_below, and_mask}
use Rattle.std.proofs.lemmas.Nat.Bits.{bit_at_or, bit_at_and, bit_at_not, bit_at-lt, bit_at_ones}
use Rattle.std.proofs.lemmas.Nat.Bits.{bit_at_above}
use Rattle.vb_bits.specs.Bits.{bit_of, bits}
use Rattle.vb_bits.specs.Digits.{has_bit, digits}
use Rattle.vb_bits.specs.Writes.{Writes}
use Rattle.vb_bits.proofs.DigitsLemmas.{length-digits, at-digits, same_digits}
use Rattle.vb_bits.proofs.MasksLemmas.{Writes-in_byte}
use Rattle.vb_bits.proofs.ReadLemmas.{has_bit-bits, digits_cut}
use Rattle.vb_bits.proofs.ShiftLemmas.{shl_low, shl_high, bit_at_cut, digits_shr}
use Rattle.vb_bits.proofs.WritesLemmas.{Writes_by_bits, Writes-at}

-- n ones from digit s on
abbrev pub ones_from : ℕ → ℕ → ℕ
ones_from s n = (2 ^ 64 - 1) / 2 ^ (64 - n) * 2 ^ s % 2 ^ 64

ones_inside : (s n i : ℕ) → s + n ≤ 64 → i < n → bit_at (ones_from s n) (s + i) ≡ 1
ones_inside s n i within h =
    let x : ℕ = (2 ^ 64 - 1) / 2 ^ (64 - n) in
    let place : s + i - s ≡ i = omega arith in
    bit_at_cut (x * 2 ^ s) 64 (s + i) (omega arith) ∙ shl_high x s (s + i) (omega arith)
    ∙ ap (bit_at x) place ∙ ap (λ y. y % 2) (shr-shr (2 ^ 64 - 1) (64 - n) i)
    ∙ bit_at_ones 64 (64 - n + i) (omega arith)

ones_outside : (s n r : ℕ)
    → n ≤ 64 → r < 64 → (r < s) ⊎ (s + n ≤ r) → bit_at (ones_from s n) r ≡ 0
ones_outside s n r few l (inl low) =
    let x : ℕ = (2 ^ 64 - 1) / 2 ^ (64 - n) in
    bit_at_cut (x * 2 ^ s) 64 r l ∙ shl_low x s r low
ones_outside s n r few l (inr high) =
    let x : ℕ = (2 ^ 64 - 1) / 2 ^ (64 - n) in
    bit_at_cut (x * 2 ^ s) 64 r l ∙ shl_high x s r (omega arith)
    ∙ ap (λ y. y % 2) (shr-shr (2 ^ 64 - 1) (64 - n) (r - s))
    ∙ bit_at_above (2 ^ 64 - 1) 64 (64 - n + (r - s)) (omega arith) (omega arith)

-- a number with its digits from s on replaced by the n lowest digits of another
abbrev pub mixed : ℕ → ℕ → ℕ → ℕ → ℕ
mixed x s n w = bit_or (bit_and x (bit_not w64 (ones_from s n)))
    (bit_and (w * 2 ^ s % 2 ^ 64) (ones_from s n))

mixed_digit : (x s n w r : ℕ) → r < 64 → bit_at (mixed x s n w) r
    ≡ max (min (bit_at x r) (1 - bit_at (ones_from s n) r))
    (min (bit_at (w * 2 ^ s % 2 ^ 64) r) (bit_at (ones_from s n) r))
mixed_digit x s n w r l =
    let m : ℕ = ones_from s n in
    let y : ℕ = w * 2 ^ s % 2 ^ 64 in
    let small : m < 2 ^ 64 =
    mod_below ((2 ^ 64 - 1) / 2 ^ (64 - n) * 2 ^ s) (2 ^ 64) (omega arith) in
    bit_at_or (bit_and x (bit_not w64 m)) (bit_and y m) r
    ∙ ap (λ z. max z (bit_at (bit_and y m) r)) (bit_at_and x (bit_not w64 m) r
    ∙ ap (min (bit_at x r)) (bit_at_not w64 m r small l))
    ∙ ap (max (min (bit_at x r) (1 - bit_at m r))) (bit_at_and y m r)

-- the digits of the mixed number: those from s on, and the others
pub mixed_inside : (x s n w : ℕ) → s + n ≤ 64 → digits (mixed x s n w) s n ≡ digits w 0 n
mixed_inside x s n w within =
    let m : ℕ = ones_from s n in
    let y : ℕ = w * 2 ^ s % 2 ^ 64 in
    let low : (z r : ℕ) → bit_at z r < 2 = bit_at-lt in
    same_digits (mixed x s n w) w s 0 n (λ i l.
    let back : s + i - s ≡ i = omega arith in
    let one : bit_at m (s + i) ≡ 1 = ones_inside s n i within l in
    let moved : bit_at y (s + i) ≡ bit_at w i =
    bit_at_cut (w * 2 ^ s) 64 (s + i) (omega arith)
    ∙ shl_high w s (s + i) (omega arith) ∙ ap (bit_at w) back in
    let here : max (min (bit_at x (s + i)) (1 - bit_at m (s + i)))
    (min (bit_at y (s + i)) (bit_at m (s + i))) ≡ bit_at w i = omega (arith, low w i) in
    ap (λ z. eqb z 1) (mixed_digit x s n w (s + i) (omega arith) ∙ here)
    ∙ ap (has_bit w) (sym (zero-add i)))

pub mixed_outside : (x s n w r : ℕ) → s + n ≤ 64 → r < 64 → (r < s) ⊎ (s + n ≤ r)
    → has_bit (mixed x s n w) r ≡ has_bit x r
mixed_outside x s n w r within l h =
    let m : ℕ = ones_from s n in
    let y : ℕ = w * 2 ^ s % 2 ^ 64 in
    let low : (z r : ℕ) → bit_at z r < 2 = bit_at-lt in
    let none : bit_at m r ≡ 0 = ones_outside s n r (omega arith) l h in
    let here : max (min (bit_at x r) (1 - bit_at m r)) (min (bit_at y r) (bit_at m r))
    ≡ bit_at x r = omega (arith, low x r) in
    ap (λ z. eqb z 1) (mixed_digit x s n w r l ∙ here)

-- a write of z digits, of which n are the lowest digits of w and the others are the old ones, is a
-- write of these n digits
pub Writes_digits : (b c : List ℕ) (o s n z x v w : ℕ) → s + n ≤ z → digits x 0 z ≡ bits b o z
    → digits v s n ≡ digits w 0 n
    → ((r : ℕ) → r < z → (r < s) ⊎ (s + n ≤ r) → has_bit v r ≡ has_bit x r)
    → Writes b c o (digits v 0 z) → Writes b c (o + s) (digits w 0 n)
Writes_digits b c o s n z x v w within read inside outside written =
    let few : length (digits w 0 n) ≡ n = length-digits w 0 n in
    let all : length (digits v 0 z) ≡ z = length-digits v 0 z in
    let digit : (r : ℕ) → r < z → bit_of c (o + r) ≡ has_bit v r =
    λ r l. Writes-at b c o r (digits v 0 z) false written (omega arith)
    ∙ at-digits v 0 z r false l ∙ ap (has_bit v) (zero-add r) in
    Writes_by_bits b c (o + s) (digits w 0 n) written.same_len
    (λ i d l.
    let place : o + s + i ≡ o + (s + i) = omega arith in
    ap (bit_of c) place ∙ digit (s + i) (omega arith)
    ∙ sym (at-digits v s n i d (omega arith)) ∙ ap (λ y. get_or y i d) inside)
    (λ j h. elim (cases_lt j o) [
      | inl before ↦ written.others j (inl before)
      | inr from ↦ elim (cases_lt j (o + z)) [
        | inl here ↦
            let r : ℕ = j - o in
            let place : o + r ≡ j = omega arith in
            ap (bit_of c) (sym place) ∙ digit r (omega arith)
            ∙ outside r (omega arith)
            (elim h [ inl a ↦ inl (omega arith) | inr a ↦ inr (omega arith) ])
            ∙ has_bit-bits b x o z r read (omega arith) ∙ ap (bit_of b) place
        | inr behind ↦ written.others j (inr (omega arith))
      ]
    ])

-- ---- a number written to at most eight bytes
-- the digits under a mask
digits_under : (w k : ℕ) → digits (bit_and w (2 ^ k - 1)) 0 k ≡ digits w 0 k
digits_under w k = ap (λ x. digits x 0 k) (and_mask w k) ∙ digits_cut w k

-- a number written to the first k of n bytes and to the last k
pub Writes_ends : (b c d : List ℕ) (k n w : ℕ) → k ≤ n → n ≤ 2 * k
    → Writes b c 0 (digits (bit_and w (2 ^ (8 * k) - 1)) 0 (8 * k))
    → Writes c d (8 * (n - k))
    (digits (bit_and (w / 2 ^ (8 * (n - k))) (2 ^ (8 * k) - 1)) 0 (8 * k))
    → Writes b d 0 (digits w 0 (8 * n))
Writes_ends b c d k n w from to one two =
    let s : ℕ = 8 * (n - k) in
    let z : ℕ = 8 * k in
    let v : ℕ = bit_and w (2 ^ z - 1) in
    let u : ℕ = bit_and (w / 2 ^ s) (2 ^ z - 1) in
    let whole : length (digits w 0 (8 * n)) ≡ 8 * n = length-digits w 0 (8 * n) in
    let front : length (digits v 0 z) ≡ z = length-digits v 0 z in
    let back : length (digits u 0 z) ≡ z = length-digits u 0 z in
    Writes_by_bits b d 0 (digits w 0 (8 * n)) (two.same_len ∙ one.same_len)
    (λ i e l. elim (cases_lt i s) [
      | inl before ↦
          two.others (0 + i) (inl (omega arith))
          ∙ Writes-at b c 0 i (digits v 0 z) e one (omega arith)
          ∙ ap (λ m. get_or m i e) (digits_under w z) ∙ at-digits w 0 z i e (omega arith)
          ∙ sym (at-digits w 0 (8 * n) i e (omega arith))
      | inr behind ↦
          let there : s + (i - s) ≡ 0 + i = omega arith in
          ap (bit_of d) (sym there)
          ∙ Writes-at c d s (i - s) (digits u 0 z) e two (omega arith)
          ∙ ap (λ m. get_or m (i - s) e) (digits_under (w / 2 ^ s) z ∙ digits_shr w s z)
          ∙ at-digits w s z (i - s) e (omega arith) ∙ ap (has_bit w) there
          ∙ sym (at-digits w 0 (8 * n) i e (omega arith))
    ])
    (λ i h. two.others i (elim h [ inl low ↦ inl (omega arith) | inr high ↦ inr (omega arith) ])
    ∙ one.others i (elim h [ inl low ↦ inl low | inr high ↦ inr (omega arith) ]))

-- a number written to one byte
pub Writes_one : (b : List ℕ) (w : ℕ) → length b ≡ 1
    → Writes b (set b 0 (bit_and w 255)) 0 (digits w 0 (8 * length b))
Writes_one b w one =
    let long : length (digits w 0 8) ≡ 8 = length-digits w 0 8 in
    subst (λ n. Writes b (set b 0 (bit_and w 255)) 0 (digits w 0 (8 * n))) (sym one)
    (Writes-in_byte b 0 (bit_and w 255) (digits w 0 8) (omega arith) (omega arith)
    (λ i d l. ap (λ x. has_bit x (0 + i)) (and_mask w 8)
    ∙ ap (λ z. eqb z 1) (bit_at_cut w 8 (0 + i) (omega arith))
    ∙ sym (at-digits w 0 8 i d (omega arith)))
    (λ r l h. absurd (elim h [ inl a ↦ omega arith | inr a ↦ omega arith ])))
