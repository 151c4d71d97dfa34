-- Vectors of four words, digit by digit.
use Rattle.std.proofs.Common.{◌≡◌, ℕ, zero, suc, ◌+◌, ◌-◌, ◌*◌, ◌/◌, ◌%◌, ◌^◌, ◌<◌, ◌≤◌, Bool, true}
use Rattle.std.proofs.Common.{false, not, ◌&&◌, cond, eqb, List, [], ◌∷◌, ◌++◌, length, replicate}
use Rattle.std.proofs.Common.{get_or, refl, sym, ap, subst, ◌∙◌, arith, zero-add}
use Rattle.std.proofs.Math.Nat.{mul-add, mul-one, mul-zero}
use Rattle.std.proofs.lemmas.List.{same_lists, length-map, get_or-map, get_or-replicate, drop_all}
use Rattle.std.proofs.lemmas.List.{append-nil}
use Rattle.std.proofs.lemmas.List.FromFn.{length-map-range_with_len, get_or-map-range_with_len}
use Rattle.std.proofs.lemmas.Nat.{pow_pos, mod_below}
use Rattle.std.proofs.lemmas.Nat.Bits.{bit_at-zero, bit_at_cat_low, bit_at_cat_high, bit_at_ones}
use Rattle.std.proofs.lemmas.Simd.{length-zip2, get_or-zip2, put_chunk_is, Each1-get_or}
use Rattle.std.specs.Prelude.{bit_or, bit_xor}
use Rattle.std.specs.Int.{bit_at}
use Rattle.std.specs.Simd.Lanes.{Each1, zip2, number_l, digits_l, put_chunk}
use borrow.Rule.Slice.PartMut.{put_mid}
use Rattle.vb_bits.specs.Bits.{bit_of, bits, complement}
use Rattle.vb_bits.specs.Writes.{Writes}
use Rattle.vb_bits.specs.Digits.{has_bit, digits, lane_bit, lane_bits}
use Rattle.vb_bits.specs.Operators.{merged_by}
use Rattle.vb_bits.proofs.BitsLemmas.{length-bits, at-bits}
use Rattle.vb_bits.proofs.ShiftLemmas.{has_bit_shr, bit_at_cut}
use Rattle.vb_bits.proofs.DigitsLemmas.{has_bit-xor}
use Rattle.vb_bits.proofs.ReadLemmas.{digits-bits, has_bit-bits, digits_overlapped}
use Rattle.vb_bits.proofs.WritesLemmas.{Writes-put_mid}
use Rattle.vb_bits.proofs.OperatorsLemmas.{length-merged_by, at-merged_by}

-- ---- digits of four words
pub length-lane_bits : (v : List ℕ) → length (lane_bits v) ≡ 256
unfolding lane_bits
length-lane_bits v = length-map-range_with_len (lane_bit v) 0 256

pub at-lane_bits : (v : List ℕ) (i : ℕ) (d : Bool) → i < 256
    → get_or (lane_bits v) i d ≡ lane_bit v i
unfolding lane_bits
at-lane_bits v i d h = get_or-map-range_with_len (lane_bit v) 0 256 i i d h (zero-add i)

-- the digits are a window if digit i is bit o + i, for each i
pub lane_bits-bits : (v b : List ℕ) (o : ℕ) → ((i : ℕ) → i < 256 → lane_bit v i ≡ bit_of b (o + i))
    → lane_bits v ≡ bits b o 256
lane_bits-bits v b o h =
    same_lists _ _ (length-lane_bits v ∙ sym (length-bits b o 256)) (λ i d l.
    let inside : i < 256 = omega (arith, length-lane_bits v) in
    at-lane_bits v i d inside ∙ h i inside ∙ sym (at-bits b o 256 i d inside))

-- if the digits are a window, digit i is bit o + i
pub lane_bit-bits : (v b : List ℕ) (o i : ℕ) → lane_bits v ≡ bits b o 256 → i < 256
    → lane_bit v i ≡ bit_of b (o + i)
lane_bit-bits v b o i e h = sym (at-lane_bits v i (lane_bit v i) h)
    ∙ ap (λ l. get_or l i (lane_bit v i)) e ∙ at-bits b o 256 i (lane_bit v i) h

-- ---- bytes as one number, and that number as words
-- digit i of part j of a number
part_bit : (k n x j i : ℕ) → j < n → i < k
    → has_bit (get_or (digits_l (2 ^ k) n x) j 0) i ≡ has_bit x (k * j + i)
part_bit k zero x j i g h = absurd (omega arith)
part_bit k (suc n) x zero i g h =
    let e : i ≡ k * 0 + i = omega (arith, mul-zero k) in
    ap (λ z. eqb z 1) (bit_at_cut x k i h) ∙ ap (has_bit x) e
part_bit k (suc n) x (suc j) i g h =
    let e : k + (k * j + i) ≡ k * suc j + i = omega (arith, mul-add k j 1, mul-one k) in
    part_bit k n (x / 2 ^ k) j i (omega arith) h ∙ has_bit_shr x k (k * j + i) ∙ ap (has_bit x) e

-- digit i of number j of a list, as a digit of the number that the list represents
whole_bit : (k : ℕ) (xs : List ℕ) (j i : ℕ) → Each1 (λ x. x < 2 ^ k) xs → i < k
    → has_bit (number_l (2 ^ k) xs) (k * j + i) ≡ has_bit (get_or xs j 0) i
whole_bit k [] j i f h = ap (λ z. eqb z 1) (bit_at-zero (k * j + i) ∙ sym (bit_at-zero i))
whole_bit k (x ∷ xs) zero i f h =
    let rest : ℕ = number_l (2 ^ k) xs in
    let e : x + 2 ^ k * rest ≡ rest * 2 ^ k + x = omega arith in
    let p : k * 0 + i ≡ i = omega (arith, mul-zero k) in
    ap (has_bit (x + 2 ^ k * rest)) p ∙ ap (λ y. has_bit y i) e
    ∙ ap (λ z. eqb z 1) (bit_at_cat_low rest k x i h)
whole_bit k (x ∷ xs) (suc j) i f h =
    let rest : ℕ = number_l (2 ^ k) xs in
    let e : x + 2 ^ k * rest ≡ rest * 2 ^ k + x = omega arith in
    let more = mul-add k j 1 in
    let from : k ≤ k * suc j + i = omega (arith, more, mul-one k) in
    let p : k * suc j + i - k ≡ k * j + i = omega (arith, more, mul-one k) in
    ap (λ y. has_bit y (k * suc j + i)) e
    ∙ ap (λ z. eqb z 1) (bit_at_cat_high rest k x (k * suc j + i) f.0 from ∙ ap (bit_at rest) p)
    ∙ whole_bit k xs j i f.1 h

-- bytes read as four words
pub lane_bit_of_bytes : (xs : List ℕ) (i : ℕ) → Each1 (λ x. x < 256) xs → i < 256
    → lane_bit (digits_l (2 ^ 64) 4 (number_l 256 xs)) i ≡ bit_of xs i
lane_bit_of_bytes xs i f h =
    let word : 64 * (i / 64) + i % 64 ≡ i = omega arith in
    let byte : i ≡ 8 * (i / 8) + i % 8 = omega arith in
    part_bit 64 4 (number_l 256 xs) (i / 64) (i % 64) (omega arith) (omega arith)
    ∙ ap (has_bit (number_l 256 xs)) (word ∙ byte) ∙ whole_bit 8 xs (i / 8) (i % 8) f (omega arith)

-- words written as bytes
pub bit_of_lanes : (vs : List ℕ) (i : ℕ) → Each1 (λ x. x < 2 ^ 64) vs → i < 256
    → bit_of (digits_l 256 32 (number_l (2 ^ 64) vs)) i ≡ lane_bit vs i
bit_of_lanes vs i f h =
    let byte : 8 * (i / 8) + i % 8 ≡ i = omega arith in
    let word : i ≡ 64 * (i / 64) + i % 64 = omega arith in
    part_bit 8 32 (number_l (2 ^ 64) vs) (i / 8) (i % 8) (omega arith) (omega arith)
    ∙ ap (has_bit (number_l (2 ^ 64) vs)) (byte ∙ word)
    ∙ whole_bit 64 vs (i / 64) (i % 64) f (omega arith)

-- ---- operators
-- words combined lane by lane
pub lane_bits-merged_by : (f : Bool → Bool → Bool) (g : ℕ → ℕ → ℕ) (xs ys : List ℕ) → length xs ≡ 4
    → length ys ≡ 4
    → ((v w i : ℕ) → i < 64 → has_bit (g v w) i ≡ f (has_bit v i) (has_bit w i))
    → lane_bits (zip2 g xs ys) ≡ merged_by f (lane_bits xs) (lane_bits ys)
lane_bits-merged_by f g xs ys lx ly h =
    let same : length (lane_bits xs) ≡ length (lane_bits ys) = length-lane_bits xs
    ∙ sym (length-lane_bits ys) in
    same_lists _ _ (length-lane_bits (zip2 g xs ys)
    ∙ sym (length-merged_by f (lane_bits xs) (lane_bits ys) same ∙ length-lane_bits xs)) (λ i d l.
    let inside : i < 256 = omega (arith, length-lane_bits (zip2 g xs ys)) in
    at-lane_bits (zip2 g xs ys) i d inside
    ∙ ap (λ w. has_bit w (i % 64)) (get_or-zip2 g xs ys (i / 64) 0 0 0 (omega arith) (omega arith))
    ∙ h (get_or xs (i / 64) 0) (get_or ys (i / 64) 0) (i % 64) (omega arith)
    ∙ sym (at-merged_by f (lane_bits xs) (lane_bits ys) i d d d (omega (arith, length-lane_bits xs))
    (omega (arith, length-lane_bits ys))
    ∙ ap (λ x. f x (get_or (lane_bits ys) i d)) (at-lane_bits xs i d inside)
    ∙ ap (f (lane_bit xs i)) (at-lane_bits ys i d inside)))

-- `left & !right` as an exclusive or
pub merged_and_not : (l r : List Bool) → length l ≡ length r
    → merged_by (λ a b. cond a (not b) b) l (merged_by (λ a b. a && b) l r) ≡ merged_by
    (λ a b. a && not b) l r
unfolding merged_by
merged_and_not [] [] e = refl
merged_and_not [] (y ∷ r) e = absurd (omega arith)
merged_and_not (x ∷ l) [] e = absurd (omega arith)
merged_and_not (x ∷ l) (y ∷ r) e = ap (λ z. cond x (not (x && y)) (x && y) ∷ z)
    (merged_and_not l r (omega arith)) ∙ ap (λ z. z ∷ zip2 (λ a b. a && not b) l r) (one x y)
  where
    one : (x y : Bool) → cond x (not (x && y)) (x && y) ≡ (x && not y)
    one true true = refl
    one true false = refl
    one false y = refl

-- words negated
pub lane_bits-complement : (xs : List ℕ) → length xs ≡ 4
    → lane_bits (zip2 bit_xor xs (replicate 4 (2 ^ 64 - 1))) ≡ complement (lane_bits xs)
lane_bits-complement xs long =
    let ones : List ℕ = replicate 4 (2 ^ 64 - 1) in
    same_lists _ _ (length-lane_bits (zip2 bit_xor xs ones)
    ∙ sym (length-map (lane_bits xs) not ∙ length-lane_bits xs)) (λ i d l.
    let inside : i < 256 = omega (arith, length-lane_bits (zip2 bit_xor xs ones)) in
    let one : get_or ones (i / 64) 0 ≡ 2 ^ 64 - 1 = get_or-replicate 4 (i / 64) (2 ^ 64 - 1) 0
    (omega arith) in
    let set : has_bit (2 ^ 64 - 1) (i % 64) ≡ true = ap (λ z. eqb z 1)
    (bit_at_ones 64 (i % 64) (omega arith)) in
    at-lane_bits (zip2 bit_xor xs ones) i d inside
    ∙ ap (λ w. has_bit w (i % 64)) (get_or-zip2 bit_xor xs ones (i / 64) 0 0 0 (omega arith)
    (omega arith))
    ∙ ap (λ w. has_bit (bit_xor (get_or xs (i / 64) 0) w) (i % 64)) one
    ∙ has_bit-xor (get_or xs (i / 64) 0) (2 ^ 64 - 1) (i % 64)
    ∙ ap (λ z. cond (lane_bit xs i) (not z) z) set ∙ flipped (lane_bit xs i)
    ∙ sym (get_or-map not (lane_bits xs) i d d (omega (arith, length-lane_bits xs))
    ∙ ap not (at-lane_bits xs i d inside)))
  where
    flipped : (b : Bool) → cond b false true ≡ not b
    flipped true = refl
    flipped false = refl

-- one of the words
pub digits_of_lane : (v b : List ℕ) (a j : ℕ) → lane_bits v ≡ bits b (8 * a) 256 → j < 4
    → digits (get_or v j 0) 0 64 ≡ bits b (8 * (a + 8 * j)) 64
digits_of_lane v b a j e h = digits-bits b (get_or v j 0) (8 * (a + 8 * j)) 64 (λ i l.
    let word : j ≡ (64 * j + i) / 64 = omega arith in
    let digit : i ≡ (64 * j + i) % 64 = omega arith in
    let place : 8 * a + (64 * j + i) ≡ 8 * (a + 8 * j) + i = omega arith in
    ap (λ k. has_bit (get_or v k 0) i) word ∙ ap (has_bit (get_or v ((64 * j + i) / 64) 0)) digit
    ∙ lane_bit-bits v b (8 * a) (64 * j + i) e (omega arith) ∙ ap (bit_of b) place)

-- words that start within a byte, built from the words at that byte and the words at the next one
pub lane_bits-overlapped : (xs ys b : List ℕ) (a s : ℕ) → length xs ≡ 4 → length ys ≡ 4
    → Each1 (λ x. x < 2 ^ 64) xs
    → lane_bits xs ≡ bits b (8 * a) 256 → lane_bits ys ≡ bits b (8 * (a + 1)) 256 → s < 8
    → lane_bits (zip2 bit_or (zip2 (λ x k. x / 2 ^ k) xs (replicate 4 s))
    (zip2 (λ x k. x * 2 ^ k % 2 ^ 64) ys (replicate 4 (8 - s)))) ≡ bits b (8 * a + s) 256
lane_bits-overlapped xs ys b a s lx ly small ex ey few =
    let low : List ℕ = zip2 (λ x k. x / 2 ^ k) xs (replicate 4 s) in
    let high : List ℕ = zip2 (λ x k. x * 2 ^ k % 2 ^ 64) ys (replicate 4 (8 - s)) in
    let ll : length low ≡ 4 = length-zip2 (λ x k. x / 2 ^ k) xs (replicate 4 s) lx ∙ lx in
    let lh : length high ≡ 4 = length-zip2 (λ x k. x * 2 ^ k % 2 ^ 64) ys (replicate 4 (8 - s)) ly
    ∙ ly in
    lane_bits-bits (zip2 bit_or low high) b (8 * a + s) (λ i h.
    let j : ℕ = i / 64 in let r : ℕ = i % 64 in
    let jl : j < 4 = omega arith in
    let first = get_or-zip2 (λ x k. x / 2 ^ k) xs (replicate 4 s) j 0 0 0 (omega arith)
    (omega arith) ∙ ap (λ k. get_or xs j 0 / 2 ^ k) (get_or-replicate 4 j s 0 jl) in
    let second = get_or-zip2 (λ x k. x * 2 ^ k % 2 ^ 64) ys (replicate 4 (8 - s)) j 0 0 0
    (omega arith) (omega arith) ∙ ap (λ k. get_or ys j 0 * 2 ^ k % 2 ^ 64)
    (get_or-replicate 4 j (8 - s) 0 jl) in
    let next : 8 * (a + 1 + 8 * j) ≡ 8 * (a + 8 * j + 1) = omega arith in
    let word = digits_overlapped b (a + 8 * j) s (get_or xs j 0) (get_or ys j 0)
    (digits_of_lane xs b a j ex jl) (digits_of_lane ys b (a + 1) j ey jl
    ∙ ap (λ o. bits b o 64) next) (Each1-get_or (λ x. x < 2 ^ 64) xs j 0 (omega (arith, lx)) small)
    few in
    let place : 8 * (a + 8 * j) + s + r ≡ 8 * a + s + i = omega arith in
    ap (λ w. has_bit w r) (get_or-zip2 bit_or low high j 0 0 0 (omega arith) (omega arith)
    ∙ ap (λ z. bit_or z (get_or high j 0)) first ∙ ap (bit_or (get_or xs j 0 / 2 ^ s)) second)
    ∙ has_bit-bits b _ (8 * (a + 8 * j) + s) 64 r word (omega arith) ∙ ap (bit_of b) place)

-- ---- writes
-- a window combined with another, or negated, four words at once
pub Writes_merged_lanes : (f : Bool → Bool → Bool) (b c t w x y : List ℕ) (o p q : ℕ)
    → lane_bits x ≡ bits b p 256 → lane_bits y ≡ bits t q 256
    → lane_bits w ≡ merged_by f (lane_bits x) (lane_bits y)
    → Writes b c o (lane_bits w) → o ≡ p → Writes b c p (merged_by f (bits b p 256) (bits t q 256))
Writes_merged_lanes f b c t w x y o p q left right h written at =
    subst (λ z. Writes b c z (merged_by f (bits b p 256) (bits t q 256))) at
    (subst (Writes b c o) (h ∙ ap (λ z. merged_by f z (lane_bits y)) left
    ∙ ap (merged_by f (bits b p 256)) right) written)

-- the parts of a number
pub parts_below : (k n x : ℕ) → Each1 (λ y. y < 2 ^ k) (digits_l (2 ^ k) n x)
parts_below k zero x = tt
parts_below k (suc n) x = (mod_below x (2 ^ k) (pow_pos k), parts_below k n (x / 2 ^ k))

-- 32 bytes of b overwritten by the bytes of four words
pub Writes_lanes : (b ws ys xs : List ℕ) (a k : ℕ) → length ws ≡ 4 → Each1 (λ x. x < 2 ^ 64) ws
    → ys ≡ digits_l 256 32 (number_l (2 ^ 64) ws) → length ys ≡ 32 → length xs ≡ 32 → k ≡ 32
    → a + 32 ≤ length b
    → Writes b (put_mid a k b (put_chunk 0 xs ys)) (8 * a) (lane_bits ws)
Writes_lanes b ws ys xs a k four small is long size count within =
    let over : put_chunk 0 xs ys ≡ ys = put_chunk_is 0 xs ys (omega arith)
    ∙ ap (λ l. ys ++ l) (drop_all (length ys) xs (omega arith)) ∙ append-nil ys in
    let digits = lane_bits-bits ws ys 0 (λ i h. sym (ap (bit_of ys) (zero-add i)
    ∙ ap (λ l. bit_of l i) is ∙ bit_of_lanes ws i small h)) in
    Writes-put_mid b (put_chunk 0 xs ys) a k (lane_bits ws) (ap length over ∙ long ∙ sym count)
    (omega arith) (ap (λ l. bits l 0 (8 * k)) over ∙ ap (λ n. bits ys 0 (8 * n)) count ∙ sym digits)
