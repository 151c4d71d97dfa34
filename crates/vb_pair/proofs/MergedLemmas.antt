-- Counts of two combined windows.
use Rattle.std.proofs.Common.{◌≡◌, ℕ, ◌+◌, ◌*◌, ◌/◌, ◌%◌, ◌<◌, ◌≤◌, Bool, List, ◌++◌, map, get_or}
use Rattle.std.proofs.Common.{sym, ap, ◌∙◌, arith, zero-add}
use Rattle.std.proofs.lemmas.List.FromFn.{length-map-range_with_len}
use Rattle.std.specs.List.{range_with_len}
use Rattle.vb_bits.specs.Bits.{bits, count}
use Rattle.vb_bits.specs.Digits.{has_bit, digits, lane_bit, lane_bits}
use Rattle.vb_bits.specs.Operators.{merged_by}
use Rattle.vb_pair.specs.Merged.{merged_ones}
use Rattle.vb_bits.proofs.BitsLemmas.{bits-add, length-bits, count-append, count-le}
use Rattle.vb_bits.proofs.OperatorsLemmas.{length-merged_bits, merged_by-append, digits-merged_by}
use Rattle.vb_bits.proofs.RangeLemmas.{map-range_with_len-add, same_map-range_with_len}

-- ---- windows
-- at most the number of bits
pub merged_ones-le : (f : Bool → Bool → Bool) (a b : List ℕ) (o p n : ℕ)
    → merged_ones f a o b p n ≤ n
merged_ones-le f a b o p n = omega (
  arith,
  count-le (merged_by f (bits a o n) (bits b p n)),
  length-merged_bits f a b o p n,
)

-- no set bit in no bits
pub merged_ones_none : (f : Bool → Bool → Bool) (a b : List ℕ) (o p : ℕ)
    → merged_ones f a o b p 0 ≡ 0
merged_ones_none f a b o p = omega (arith, merged_ones-le f a b o p 0)

-- windows cut in two
merged_ones-add : (f : Bool → Bool → Bool) (a b : List ℕ) (o p m n : ℕ)
    → merged_ones f a o b p (m + n)
    ≡ merged_ones f a o b p m + merged_ones f a (o + m) b (p + m) n
merged_ones-add f a b o p m n =
    ap count (ap (λ l. merged_by f l (bits b p (m + n))) (bits-add a o m n)
    ∙ ap (merged_by f (bits a o m ++ bits a (o + m) n)) (bits-add b p m n)
    ∙ merged_by-append f (bits a o m) (bits a (o + m) n) (bits b p m) (bits b (p + m) n)
    (length-bits a o m ∙ sym (length-bits b p m)))
    ∙ count-append (merged_by f (bits a o m) (bits b p m))
    (merged_by f (bits a (o + m) n) (bits b (p + m) n))

-- the same, with offsets and lengths as the code has them
pub merged_ones_split : (f : Bool → Bool → Bool) (a b : List ℕ) (o p m z q r k : ℕ)
    → q ≡ o + m → r ≡ p + m → z ≡ m + k
    → merged_ones f a o b p z ≡ merged_ones f a o b p m + merged_ones f a q b r k
merged_ones_split f a b o p m z q r k left right end =
    ap (λ x. merged_ones f a o b p x) end ∙ merged_ones-add f a b o p m k
    ∙ ap (λ x. merged_ones f a o b p m + merged_ones f a x b (p + m) k) (sym left)
    ∙ ap (λ x. merged_ones f a o b p m + merged_ones f a q b x k) (sym right)

-- ---- words
-- a number whose digits combine those of two numbers, whose digits are windows
pub ones_of_merged : (f : Bool → Bool → Bool) (a b : List ℕ) (o p n w x y : ℕ) → n ≤ 64
    → digits x 0 n ≡ bits a o n → digits y 0 n ≡ bits b p n
    → ((i : ℕ) → i < 64 → has_bit w i ≡ f (has_bit x i) (has_bit y i))
    → count (digits w 0 n) ≡ merged_ones f a o b p n
ones_of_merged f a b o p n w x y small left right each =
    ap count (digits-merged_by f w x y n small each
    ∙ ap (λ l. merged_by f l (digits y 0 n)) left ∙ ap (merged_by f (bits a o n)) right)

-- ---- four words
-- one of them
digits_of_lane : (ws : List ℕ) (k : ℕ)
    → map (lane_bit ws) (range_with_len (64 * k) 64) ≡ digits (get_or ws k 0) 0 64
unfolding digits
digits_of_lane ws k =
    same_map-range_with_len (lane_bit ws) (has_bit (get_or ws k 0)) (64 * k) 0 64 (λ i l.
    let word : (64 * k + i) / 64 ≡ k = omega arith in
    let place : (64 * k + i) % 64 ≡ 0 + i = omega arith in
    ap (λ j. has_bit (get_or ws j 0) ((64 * k + i) % 64)) word
    ∙ ap (has_bit (get_or ws k 0)) place)

-- the number of set digits among the first n
abbrev front_ones : List ℕ → ℕ → ℕ
front_ones ws n = count (map (lane_bit ws) (range_with_len 0 n))

-- no set digit in no digits
front_ones_none : (ws : List ℕ) → front_ones ws 0 ≡ 0
front_ones_none ws = omega (
  arith,
  count-le (map (lane_bit ws) (range_with_len 0 0)),
  length-map-range_with_len (lane_bit ws) 0 0,
)

-- one more word
front_ones_more : (ws : List ℕ) (k : ℕ)
    → front_ones ws (64 * k + 64) ≡ front_ones ws (64 * k) + count (digits (get_or ws k 0) 0 64)
front_ones_more ws k =
    ap count (map-range_with_len-add (lane_bit ws) 0 (64 * k) 64)
    ∙ count-append (map (lane_bit ws) (range_with_len 0 (64 * k)))
    (map (lane_bit ws) (range_with_len (0 + 64 * k) 64))
    ∙ ap (λ n. front_ones ws (64 * k) + n)
    (ap (λ o. count (map (lane_bit ws) (range_with_len o 64))) (zero-add (64 * k))
    ∙ ap count (digits_of_lane ws k))

-- all of them
four_parts : (a b c d e w x y z : ℕ) → a ≡ 0 → b ≡ a + w → c ≡ b + x → d ≡ c + y → e ≡ d + z
    → w + x + y + z ≡ e
four_parts a b c d e w x y z p q r s t = omega arith

pub count-lane_bits : (ws : List ℕ) → count (digits (get_or ws 0 0) 0 64)
    + count (digits (get_or ws 1 0) 0 64) + count (digits (get_or ws 2 0) 0 64)
    + count (digits (get_or ws 3 0) 0 64) ≡ count (lane_bits ws)
unfolding lane_bits
count-lane_bits ws =
    four_parts (front_ones ws 0) (front_ones ws 64)
    (front_ones ws 128) (front_ones ws 192) (front_ones ws 256) _ _ _ _ (front_ones_none ws)
    (front_ones_more ws 0) (front_ones_more ws 1) (front_ones_more ws 2) (front_ones_more ws 3)
