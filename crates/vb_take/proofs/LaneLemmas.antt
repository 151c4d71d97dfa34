-- A word with a bit for each lane of a vector, and a bit tested by a mask.
use Rattle.std.proofs.Common.{◌≡◌, ℕ, zero, suc, ◌-◌, ◌*◌, ◌%◌, ◌^◌, ◌<◌, Bool, true, false, not}
use Rattle.std.proofs.Common.{cond, eqb, List, map, replicate, length, get_or, refl, ap, ◌∙◌, arith}
use Rattle.std.proofs.lemmas.Bool.Decides.{nat_tests}
use Rattle.std.proofs.lemmas.List.{get_or-map}
use Rattle.std.proofs.lemmas.Nat.{pow_pos}
use Rattle.std.proofs.lemmas.Nat.Bits.{and_pow, bit_at-lt}
use Rattle.std.proofs.lemmas.Simd.{bitmask_splat, bit_mask_l, length-zip2, get_or-zip2}
use Rattle.std.specs.Int.{bit_at, w32}
use Rattle.std.specs.Prelude.{bit_and}
use lib.Lanes.{mask_l, top, zip2}
use mir.Val.{hbits, bits as width}
use Rattle.vb_bits.specs.Digits.{has_bit}

-- a number above 0
above_zero : (z : ℕ) → 0 < z → not (eqb z 0) ≡ true
above_zero z h = grind (arith, nat_tests)

-- a bit moved to a position
digit_shifted : (d i : ℕ) → d < 2 → not (eqb (d * 2 ^ i) 0) ≡ eqb d 1
digit_shifted zero i h =
    let none : 0 * 2 ^ i ≡ 0 = omega arith in
    ap (λ z. not (eqb z 0)) none
digit_shifted (suc zero) i h =
    let some : 0 < 2 ^ i = pow_pos i in
    let same : 1 * 2 ^ i ≡ 2 ^ i = omega arith in
    ap (λ z. not (eqb z 0)) same ∙ above_zero (2 ^ i) some
digit_shifted (suc (suc d)) i h = absurd (omega arith)

-- a bit of a number, tested by a mask with a single 1
pub digit_masked : (x m b i : ℕ) → x ≡ b → m ≡ 2 ^ i → not (eqb (bit_and x m) 0) ≡ has_bit b i
digit_masked x m b i e f =
    ap (λ z. not (eqb (bit_and z m) 0)) e ∙ ap (λ z. not (eqb (bit_and b z) 0)) f
    ∙ ap (λ z. not (eqb z 0)) (and_pow b i) ∙ digit_shifted (bit_at b i) i (bit_at-lt b i)

-- a truth value as a bit
cond_one : (b : Bool) → eqb (cond b 1 0) 1 ≡ b
cond_one true = refl
cond_one false = refl

-- a bit of the word that `to_bitmask` makes of lanes
has_bit-mask_l : (ms : List Bool) (i : ℕ) → has_bit (mask_l ms) i ≡ get_or ms i false
has_bit-mask_l ms i = ap (λ z. eqb z 1) (bit_mask_l ms i) ∙ cond_one (get_or ms i false)

-- a bit of the word that a comparison of all lanes with one number makes
pub lane_digit : (t : ℕ → ℕ → Bool) (xs : List ℕ) (a k : ℕ) → length xs ≡ 64 → k < 64
    → has_bit (mask_l (map (top (hbits w32)) (zip2 (λ x y. cond (t x y) (2 ^ width w32 - 1) 0) xs
    (replicate 64 a))) % 2 ^ 64) k ≡ t (get_or xs k 0) a
lane_digit t xs a k long h =
    let p = λ (x : ℕ). t x a in
    ap (λ n. has_bit n k) (bitmask_splat w32 t xs 64 a long (omega arith))
    ∙ has_bit-mask_l (map p xs) k ∙ get_or-map p xs k 0 false (omega arith)

-- a bit of the word that says which lanes of two vectors have a 1 in common
pub common_digit : (xs ys : List ℕ) (k : ℕ) → length xs ≡ 64 → length ys ≡ 64 → k < 64
    → has_bit (mask_l (map (top (hbits w32)) (zip2 (λ x y. cond (not (eqb x y))
    (2 ^ width w32 - 1) 0) (zip2 bit_and xs ys) (replicate 64 0))) % 2 ^ 64) k
    ≡ not (eqb (bit_and (get_or xs k 0) (get_or ys k 0)) 0)
common_digit xs ys k lx ly h =
    let zs : List ℕ = zip2 bit_and xs ys in
    let long : length zs ≡ 64 = length-zip2 bit_and xs ys (omega arith) ∙ lx in
    lane_digit (λ x y. not (eqb x y)) zs 0 k long h
    ∙ ap (λ z. not (eqb z 0)) (get_or-zip2 bit_and xs ys k 0 0 0 (omega arith) (omega arith))
