-- Equal windows, and numbers with equal digits.
use Rattle.std.proofs.Common.{◌≡◌, ℕ, ◌-◌, zero, suc, ◌+◌, ◌%◌, ◌^◌, ◌<◌, ◌≤◌, ◌↔◌, false, eqb, max}
use Rattle.std.proofs.Common.{List, ◌++◌, get_or, take, drop, refl, sym, ap, ◌∙◌, arith, zero-add}
use Rattle.std.specs.Int.{bit_at}
use Rattle.std.specs.Int.Bits.{bit_or, bit_xor, xor_self}
use Rattle.std.proofs.lemmas.Nat.Bits.{bit_at-lt, bit_at-zero, bit_at_or, bit_at_xor}
use Rattle.std.proofs.lemmas.Nat.Bits.{same_from_bits, same_from_bits_below}
use Rattle.vb_bits.specs.Bits.{bits}
use Rattle.vb_bits.specs.Digits.{has_bit, digits}
use Rattle.vb_bits.proofs.BitsLemmas.{take-bits, drop-bits, bits-add}
use Rattle.vb_bits.proofs.DigitsLemmas.{at-digits}

-- two windows are equal exactly if both parts are
pub same-bits-add : (b c : List ℕ) (o p m n : ℕ) → (bits b o (m + n) ≡ bits c p (m + n))
    ↔ ((bits b o m ≡ bits c p m) × (bits b (o + m) n ≡ bits c (p + m) n))
same-bits-add b c o p m n = (
  λ e. (
    sym (take-bits b o (m + n) m (omega arith))
        ∙ ap (take m) e ∙ take-bits c p (m + n) m (omega arith),
    sym (drop-bits b o m n) ∙ ap (drop m) e ∙ drop-bits c p m n,
  ),
  λ e. bits-add b o m n ∙ ap (λ l. l ++ bits b (o + m) n) e.0
      ∙ ap (λ l. bits c p m ++ l) e.1 ∙ sym (bits-add c p m n),
)

-- equal windows stay equal if their offsets and length are replaced by equal ones
pub same-at : (b c : List ℕ) (o p n q r m : ℕ)
    → o ≡ q → p ≡ r → n ≡ m → bits b o n ≡ bits c p n → bits b q m ≡ bits c r m
same-at b c o p n q r m at_b at_c len e = ap (λ i. bits b i m) (sym at_b) ∙ ap (bits b o) (sym len)
    ∙ e ∙ ap (bits c p) len ∙ ap (λ i. bits c i m) at_c

-- two windows are equal exactly if their three parts are; the last part may overlap the second
pub same-three : (b c : List ℕ) (o p h m n k q r s t : ℕ)
    → h + m ≤ k → n ≤ k → k ≤ h + m + n → q ≡ o + h → r ≡ p + h → s + n ≡ o + k → t + n ≡ p + k
    → (bits b o k ≡ bits c p k)
    ↔ ((bits b o h ≡ bits c p h) × (bits b q m ≡ bits c r m) × (bits b s n ≡ bits c t n))
same-three b c o p h m n k q r s t inside fits covers at_q at_r at_s at_t =
    let d : ℕ = h + m in
    let front = same-bits-add b c o p h m in
    let rest = same-bits-add b c o p d (k - d) in
    let last = same-bits-add b c o p (k - n) n in
    let cut = same-bits-add b c s t (d - (k - n)) (k - d) in
    let split : d + (k - d) ≡ k = omega (arith, inside) in
    let whole : k - n + n ≡ k = omega (arith, fits) in
    let back : d - (k - n) + (k - d) ≡ n = omega (arith, inside, fits, covers) in
    let from_s : s + (d - (k - n)) ≡ o + d = omega (arith, inside, fits, covers, at_s) in
    let from_t : t + (d - (k - n)) ≡ p + d = omega (arith, inside, fits, covers, at_t) in (
      λ e.
          let two =
          front.0 (rest.0 (same-at b c o p k o p (d + (k - d)) refl refl (sym split) e)).0 in
          let end = (last.0 (same-at b c o p k o p (k - n + n) refl refl (sym whole) e)).1 in (
            two.0,
            same-at b c (o + h) (p + h) m q r m (sym at_q) (sym at_r) refl two.1,
            same-at b c (o + (k - n)) (p + (k - n)) n s t n
                (omega (arith, fits, at_s)) (omega (arith, fits, at_t)) refl end,
          ),
      λ e.
          let two = front.1 (e.0, same-at b c q r m (o + h) (p + h) m at_q at_r refl e.1) in
          let end =
          (cut.0 (same-at b c s t n s t (d - (k - n) + (k - d)) refl refl (sym back) e.2)).1 in
          same-at b c o p
          (d + (k - d)) o p k refl refl split (rest.1 (
            two,
            same-at b c (s + (d - (k - n)))
                (t + (d - (k - n))) (k - d) (o + d) (p + d) (k - d) from_s from_t refl end,
          )),
    )

-- ---- numbers
same_flag : (x y : ℕ) → x < 2 → y < 2 → eqb x 1 ≡ eqb y 1 → x ≡ y
same_flag zero zero h k e = refl
same_flag zero (suc zero) h k e = absurd cc
same_flag (suc zero) zero h k e = absurd cc
same_flag (suc zero) (suc zero) h k e = refl
same_flag (suc (suc x)) y h k e = absurd (omega arith)
same_flag x (suc (suc y)) h k e = absurd (omega arith)

-- two numbers of n digits are equal if their digits are
pub same_from_digits : (v w n : ℕ) → v < 2 ^ n → w < 2 ^ n → digits v 0 n ≡ digits w 0 n → v ≡ w
same_from_digits v w n h k e = same_from_bits_below n v w h k (λ i l.
    let digit : has_bit v (0 + i) ≡ has_bit w (0 + i) = sym (at-digits v 0 n i false l)
    ∙ ap (λ d. get_or d i false) e ∙ at-digits w 0 n i false l in
    same_flag (bit_at v i) (bit_at w i) (bit_at-lt v i)
    (bit_at-lt w i) (ap (has_bit v) (sym (zero-add i)) ∙ digit ∙ ap (has_bit w) (zero-add i)))

-- a bitwise or is 0 exactly if both numbers are
pub or-zero : (v w : ℕ) → (bit_or v w ≡ 0) ↔ ((v ≡ 0) × (w ≡ 0))
or-zero v w =
    let none : (e : bit_or v w ≡ 0) (i : ℕ) → max (bit_at v i) (bit_at w i) ≡ 0 =
    λ e i. sym (bit_at_or v w i) ∙ ap (λ x. bit_at x i) e ∙ bit_at-zero i in (
      λ e. (
        same_from_bits v 0 (λ i. omega (arith, none e i, bit_at-zero i)),
        same_from_bits w 0 (λ i. omega (arith, none e i, bit_at-zero i)),
      ),
      λ e. ap (λ x. bit_or x w) e.0 ∙ ap (bit_or 0) e.1,
    )

-- an exclusive or is 0 exactly if the numbers are equal
pub xor-zero : (v w : ℕ) → (bit_xor v w ≡ 0) ↔ (v ≡ w)
xor-zero v w = (
  λ e. same_from_bits v w (λ i.
      let even : (bit_at v i + bit_at w i) % 2 ≡ 0 =
      sym (bit_at_xor v w i) ∙ ap (λ x. bit_at x i) e ∙ bit_at-zero i in
      omega (arith, even, bit_at-lt v i, bit_at-lt w i)),
  λ e. ap (λ x. bit_xor x w) e ∙ xor_self w,
)

-- one more word is compared
pub differing-add : (b c : List ℕ) (o p n d x y m q r : ℕ) → x < 2 ^ 64 → y < 2 ^ 64
    → ((d ≡ 0) ↔ (bits b o n ≡ bits c p n))
    → digits x 0 64 ≡ bits b q 64 → digits y 0 64 ≡ bits c r 64 → q ≡ o + n → r ≡ p + n → m ≡ n + 64
    → (bit_or d (bit_xor x y) ≡ 0) ↔ (bits b o m ≡ bits c p m)
differing-add b c o p n d x y m q r small_x small_y before here there at_b at_c len =
    let parts = same-bits-add b c o p n 64 in
    let to : bits b q 64 ≡ bits b (o + n) 64 = ap (λ i. bits b i 64) at_b in
    let from : bits c r 64 ≡ bits c (p + n) 64 = ap (λ i. bits c i 64) at_c in
    let all_b : bits b o m ≡ bits b o (n + 64) = ap (bits b o) len in
    let all_c : bits c p m ≡ bits c p (n + 64) = ap (bits c p) len in (
      λ e.
          let none = (or-zero d (bit_xor x y)).0 e in
          let word : x ≡ y = (xor-zero x y).0 none.1 in
          all_b ∙ parts.1 (
            before.0 none.0,
            sym to ∙ sym here ∙ ap (λ w. digits w 0 64) word ∙ there ∙ from,
          ) ∙ sym all_c,
      λ e.
          let both = parts.0 (sym all_b ∙ e ∙ all_c) in
          let word : x ≡ y =
          same_from_digits x y 64 small_x small_y (here ∙ to ∙ both.1 ∙ sym from ∙ sym there) in
          (or-zero d (bit_xor x y)).1 (before.1 both.0, (xor-zero x y).1 word),
    )
