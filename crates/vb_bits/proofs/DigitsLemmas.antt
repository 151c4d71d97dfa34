-- The digits of a number, and the number of set ones.
use Rattle.std.proofs.Common.{◌≡◌, ℕ, zero, suc, ◌+◌, ◌-◌, ◌*◌, ◌/◌, ◌%◌, ◌^◌, ◌<◌, ◌≤◌, Bool, not}
use Rattle.std.proofs.Common.{◌&&◌, ◌||◌, cond, eqb, max, min, [], ◌∷◌, ◌++◌, length, get_or, refl}
use Rattle.std.proofs.Common.{sym, ap, ◌∙◌, arith, zero-add}
use Rattle.std.specs.Prelude.{count_ones, bit_and, bit_or, bit_xor}
use Rattle.std.specs.Int.{bit_at, bit_not, Width}
use mir.Val.{bits as width}
use Rattle.std.specs.Int.Count.{ones_step}
use Rattle.std.proofs.lemmas.List.{same_lists, length-map, get_or-map}
use Rattle.std.proofs.lemmas.List.FromFn.{length-map-range_with_len, get_or-map-range_with_len}
use Rattle.std.proofs.lemmas.Nat.Bits.{bit_at-suc, bit_at_lowest, bit_at_cat_low, bit_at_and}
use Rattle.std.proofs.lemmas.Nat.Bits.{bit_at_or, bit_at_xor, bit_at_not, bit_at-lt}
use Rattle.std.proofs.lemmas.Nat.{ones_le_self, shr_split, shr-shr, mod_below, pow_pos, and_mask}
use Rattle.std.proofs.lemmas.Nat.{one_shl}
use Rattle.std.proofs.Math.Nat.{pow-suc}
use Rattle.std.proofs.lemmas.Bool.{cond_both, eqb-true, eqb-false}
use Rattle.vb_bits.specs.Bits.{count, complement}
use Rattle.vb_bits.specs.Digits.{has_bit, digits}
use Rattle.vb_bits.proofs.BitsLemmas.{count-cons, count-append}
use Rattle.vb_bits.proofs.RangeLemmas.{map-range_with_len-add, same_map-range_with_len}

-- k digits have length k
pub length-digits : (w a k : ℕ) → length (digits w a k) ≡ k
unfolding digits
length-digits w a k = length-map-range_with_len (has_bit w) a k

-- one of the digits
pub at-digits : (w a k i : ℕ) (d : Bool) → i < k → get_or (digits w a k) i d ≡ has_bit w (a + i)
unfolding digits
at-digits w a k i d h = get_or-map-range_with_len (has_bit w) a k i (a + i) d h refl

-- no digits
pub digits_none : (w a : ℕ) → digits w a 0 ≡ []
unfolding digits
digits_none w a = refl

-- digits cut in two
pub digits-add : (w a m n : ℕ) → digits w a (m + n) ≡ digits w a m ++ digits w (a + m) n
unfolding digits
digits-add w a m n = map-range_with_len-add (has_bit w) a m n

-- digits that agree one by one are the same list
pub same_digits : (v w a b k : ℕ)
    → ((i : ℕ) → i < k → has_bit v (a + i) ≡ has_bit w (b + i)) → digits v a k ≡ digits w b k
unfolding digits
same_digits v w a b k h = same_map-range_with_len (has_bit v) (has_bit w) a b k h

-- ---- the number of set digits
-- the lowest digit and the others
pub digits-suc : (w k : ℕ) → digits w 0 (suc k) ≡ has_bit w 0 ∷ digits (w / 2) 0 k
unfolding digits
digits-suc w k =
    ap (λ l. has_bit w 0 ∷ l) (same_map-range_with_len (has_bit w) (has_bit (w / 2)) 1 0 k
    (λ i h.
    let e : 1 + i ≡ suc (0 + i) = omega arith in
    ap (has_bit w) e ∙ ap (λ x. eqb x 1) (bit_at-suc w (0 + i))))

-- the lowest digit as a number
pub lowest : (w : ℕ) → cond (has_bit w 0) 1 0 ≡ w % 2
lowest w =
    ap (λ x. cond (eqb x 1) 1 0) (bit_at_lowest w)
    ∙ cond_both (eqb (w % 2) 1) 1 0 (λ x. x ≡ w % 2) (λ t. omega (arith, eqb-true (w % 2) 1 t))
    (λ f. let ne = eqb-false (w % 2) 1 f in omega (arith, ne))

-- all digits of a number
pub count-digits_below : (w k : ℕ) → w < 2 ^ k → count (digits w 0 k) ≡ count_ones w
count-digits_below w zero h = let z : w ≡ 0 = omega arith in
    ap count (digits_none w 0) ∙ omega (arith, ones_le_self w)
count-digits_below w (suc k) h =
    let small : w / 2 < 2 ^ k = omega (arith, pow-suc 2 k) in
    let rest = count-digits_below (w / 2) k small in
    ap count (digits-suc w k)
    ∙ count-cons (has_bit w 0) (digits (w / 2) 0 k) ∙ omega (arith, lowest w, rest, ones_step w)

-- a digit of a number's part
pub has_bit_part : (w a k i : ℕ) → i < k → has_bit (w / 2 ^ a % 2 ^ k) i ≡ has_bit w (a + i)
has_bit_part w a k i h =
    let y : ℕ = w / 2 ^ a in
    ap (λ z. eqb z 1) (sym (bit_at_cat_low (y / 2 ^ k) k (y % 2 ^ k) i h)
    ∙ ap (λ z. bit_at z i) (shr_split y k) ∙ ap (λ z. z % 2) (shr-shr w a i))

-- a mask cuts a part out
pub masked : (w a k : ℕ) → k < 64 → bit_and (w / 2 ^ a) (1 * 2 ^ k % 2 ^ 64 - 1) ≡ w / 2 ^ a % 2 ^ k
masked w a k h = ap (λ m. bit_and (w / 2 ^ a) (m - 1)) (one_shl k 64 h) ∙ and_mask (w / 2 ^ a) k

-- the digits of a number from a on are the digits of its part
pub digits_part : (w a k : ℕ) → digits (w / 2 ^ a % 2 ^ k) 0 k ≡ digits w a k
digits_part w a k =
    same_digits (w / 2 ^ a % 2 ^ k) w 0 a k
    (λ i h. ap (has_bit (w / 2 ^ a % 2 ^ k)) (zero-add i) ∙ has_bit_part w a k i h)

-- the count of some digits of a number
pub count-digits : (w a k : ℕ) → count (digits w a k) ≡ count_ones (w / 2 ^ a % 2 ^ k)
count-digits w a k = ap count (sym (digits_part w a k))
    ∙ count-digits_below (w / 2 ^ a % 2 ^ k) k (mod_below (w / 2 ^ a) (2 ^ k) (pow_pos k))

-- the count of digits cut in two
pub count-digits-add : (w a m n : ℕ)
    → count (digits w a (m + n)) ≡ count (digits w a m) + count (digits w (a + m) n)
count-digits-add w a m n =
    ap count (digits-add w a m n) ∙ count-append (digits w a m) (digits w (a + m) n)

-- the count of no digits
pub count-digits_none : (w a : ℕ) → count (digits w a 0) ≡ 0
count-digits_none w a = ap count (digits_none w a)

-- a number's digits from a on, with the others masked
pub digits_masked : (w a k : ℕ)
    → k < 64 → digits (bit_and (w / 2 ^ a) (1 * 2 ^ k % 2 ^ 64 - 1)) 0 k ≡ digits w a k
digits_masked w a k h = ap (λ x. digits x 0 k) (masked w a k h) ∙ digits_part w a k

-- the count of these digits
pub ones_masked : (w a k : ℕ)
    → k < 64 → count_ones (bit_and (w / 2 ^ a) (1 * 2 ^ k % 2 ^ 64 - 1)) ≡ count (digits w a k)
ones_masked w a k h = ap count_ones (masked w a k h) ∙ sym (count-digits w a k)

-- ---- a number negated
-- a digit of a number negated
pub has_bit-bit_not : (v : Width) (w i : ℕ) → w < 2 ^ width v → i < width v
    → has_bit (bit_not v w) i ≡ not (has_bit w i)
has_bit-bit_not v w i small h =
    ap (λ x. eqb x 1) (bit_at_not v w i small h) ∙ complement_digit (bit_at w i) (bit_at-lt w i)
  where
    complement_digit : (x : ℕ) → x < 2 → eqb (1 - x) 1 ≡ not (eqb x 1)
    complement_digit zero h = refl
    complement_digit (suc zero) h = refl
    complement_digit (suc (suc x)) h = absurd (omega arith)

-- the digits of a number negated
pub digits-bit_not : (v : Width) (w a k : ℕ)
    → w < 2 ^ width v → a + k ≤ width v → digits (bit_not v w) a k ≡ complement (digits w a k)
digits-bit_not v w a k small within =
    same_lists _ _ (length-digits (bit_not v w) a k
    ∙ sym (length-map (digits w a k) not ∙ length-digits w a k))
    (λ i d h.
    let lt : i < k = omega (arith, length-digits (bit_not v w) a k) in
    at-digits (bit_not v w) a k i d lt ∙ has_bit-bit_not v w (a + i) small (omega arith)
    ∙ sym (get_or-map not (digits w a k) i d d (omega (arith, length-digits w a k))
    ∙ ap not (at-digits w a k i d lt)))

-- ---- two numbers combined
-- a digit of both
pub has_bit-and : (v w i : ℕ) → has_bit (bit_and v w) i ≡ (has_bit v i && has_bit w i)
has_bit-and v w i = ap (λ x. eqb x 1) (bit_at_and v w i)
    ∙ both (bit_at v i) (bit_at w i) (bit_at-lt v i) (bit_at-lt w i)
  where
    both : (x y : ℕ) → x < 2 → y < 2 → eqb (min x y) 1 ≡ (eqb x 1 && eqb y 1)
    both zero zero g h = refl
    both zero (suc zero) g h = refl
    both (suc zero) zero g h = refl
    both (suc zero) (suc zero) g h = refl
    both (suc (suc x)) y g h = absurd (omega arith)
    both zero (suc (suc y)) g h = absurd (omega arith)
    both (suc zero) (suc (suc y)) g h = absurd (omega arith)

-- a digit of either
pub has_bit-or : (v w i : ℕ) → has_bit (bit_or v w) i ≡ (has_bit v i || has_bit w i)
has_bit-or v w i = ap (λ x. eqb x 1) (bit_at_or v w i)
    ∙ either (bit_at v i) (bit_at w i) (bit_at-lt v i) (bit_at-lt w i)
  where
    either : (x y : ℕ) → x < 2 → y < 2 → eqb (max x y) 1 ≡ (eqb x 1 || eqb y 1)
    either zero zero g h = refl
    either zero (suc zero) g h = refl
    either (suc zero) zero g h = refl
    either (suc zero) (suc zero) g h = refl
    either (suc (suc x)) y g h = absurd (omega arith)
    either zero (suc (suc y)) g h = absurd (omega arith)
    either (suc zero) (suc (suc y)) g h = absurd (omega arith)

-- a digit of exactly one of the two
pub has_bit-xor : (v w i : ℕ)
    → has_bit (bit_xor v w) i ≡ cond (has_bit v i) (not (has_bit w i)) (has_bit w i)
has_bit-xor v w i = ap (λ x. eqb x 1) (bit_at_xor v w i)
    ∙ one (bit_at v i) (bit_at w i) (bit_at-lt v i) (bit_at-lt w i)
  where
    one : (x y : ℕ) → x < 2 → y < 2 → eqb ((x + y) % 2) 1 ≡ cond (eqb x 1) (not (eqb y 1)) (eqb y 1)
    one zero zero g h = refl
    one zero (suc zero) g h = refl
    one (suc zero) zero g h = refl
    one (suc zero) (suc zero) g h = refl
    one (suc (suc x)) y g h = absurd (omega arith)
    one zero (suc (suc y)) g h = absurd (omega arith)
    one (suc zero) (suc (suc y)) g h = absurd (omega arith)
