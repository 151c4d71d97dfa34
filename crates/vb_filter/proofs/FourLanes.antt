-- Vectors of four bits of a word, lane by lane.
use Rattle.std.proofs.Common.{◌≡◌, ℕ, zero, suc, ◌+◌, ◌-◌, ◌*◌, ◌/◌, ◌%◌, ◌^◌, ◌<◌, ◌≤◌, List}
use Rattle.std.proofs.Common.{[], ◌∷◌, length, map, get_or, replicate, refl, sym, ap, ◌∙◌}
use Rattle.std.proofs.Common.{arith, zero-add, pow-suc}
use Rattle.std.specs.Int.Bits.{bit_and, bit_or}
use Rattle.std.specs.List.{range_with_len}
use Rattle.std.specs.Simd.Lanes.{Each1, zip2, number_l, digits_l}
use Rattle.std.proofs.lemmas.List.FromFn.{get_or-map-range_with_len}
use Rattle.std.proofs.lemmas.Nat.{pow-add, and_le_l, and_le_r, shr_le, shr-shr}
use Rattle.std.proofs.lemmas.Simd.{get_or-zip2, length-zip2, get_or_narrower}
use Rattle.std.proofs.lemmas.Simd.{Each1-from_get_or, Each1-get_or, get_or-replicate}
use Rattle.vb_bits.specs.Bits.{count}
use Rattle.vb_bits.specs.Digits.{digits}
use Rattle.vb_filter.specs.Fields.{kept_number}
use Rattle.vb_filter.specs.declared.fields.TheConstants.{BY_ONE, BY_TWO, POWERS}

-- ---- the bytes of a word
byte_power : (i : ℕ) → 256 ^ i ≡ 2 ^ (8 * i)
byte_power zero = refl
byte_power (suc i) =
    let more : 8 * suc i ≡ 8 * i + 8 = omega arith in
    pow-suc 256 i ∙ ap (λ x. x * 256) (byte_power i)
    ∙ sym (ap (λ n. 2 ^ n) more ∙ pow-add 2 (8 * i) 8)

pub byte_at : (word i : ℕ) → word < 2 ^ 64 → i < 8
    → get_or (digits_l 256 8 (number_l (2 ^ 64) (word ∷ []))) i 0 ≡ word / 2 ^ (8 * i) % 2 ^ 8
byte_at word i fits h =
    let l = digits_l 256 8 (number_l (2 ^ 64) (word ∷ [])) in
    let place : i ≡ 8 * 0 + i = omega arith in
    ap (λ j. get_or l j 0) place
    ∙ get_or_narrower (2 ^ 64) 8 256 8 (word ∷ []) 0 i refl (fits, tt) h (omega arith)
    ∙ ap (λ p. word / p % 256) (byte_power i)

-- ---- a byte as two fields of four bits, in a lane of 16
abbrev mix : ℕ → ℕ
mix x = bit_and (bit_or x (x * 2 ^ 4 % 2 ^ 16)) 3855

mixes : map mix (range_with_len 0 256) ≡ map (λ x. x % 16 + 256 * (x / 16)) (range_with_len 0 256)
mixes = refl

mixed : (x : ℕ) → x < 256 → mix x ≡ x % 16 + 256 * (x / 16)
mixed x h =
    sym (get_or-map-range_with_len mix 0 256 x x 0 h (zero-add x))
    ∙ ap (λ l. get_or l x 0) mixes
    ∙ get_or-map-range_with_len (λ x. x % 16 + 256 * (x / 16)) 0 256 x x 0 h (zero-add x)

field_of : (x r : ℕ) → x < 256 → r < 2 → mix x / 256 ^ r % 256 ≡ x / 2 ^ (4 * r) % 2 ^ 4
field_of x zero h few = omega (arith, mixed x h)
field_of x (suc zero) h few = omega (arith, mixed x h)
field_of x (suc (suc r)) h few = absurd (omega arith)

field_in_byte : (w r : ℕ) → r < 2 → w % 2 ^ 8 / 2 ^ (4 * r) % 2 ^ 4 ≡ w / 2 ^ (4 * r) % 2 ^ 4
field_in_byte w zero few = omega arith
field_in_byte w (suc zero) few = omega arith
field_in_byte w (suc (suc r)) few = absurd (omega arith)

module _ (word : ℕ) (bytes : List ℕ) (long : length bytes ≡ 8)
    (each : (i : ℕ) → i < 8 → get_or bytes i 0 ≡ word / 2 ^ (8 * i) % 2 ^ 8) where
  abbrev shifted : List ℕ
  shifted = zip2 (λ x s. x * 2 ^ s % 2 ^ 16) bytes (replicate 8 4)

  abbrev both : List ℕ
  both = zip2 bit_or bytes shifted

  abbrev pub mixed_bytes : List ℕ
  mixed_bytes = zip2 bit_and both (replicate 8 3855)

  length-shifted : length shifted ≡ 8
  length-shifted = length-zip2 (λ x s. x * 2 ^ s % 2 ^ 16) bytes (replicate 8 4) long ∙ long

  length-both : length both ≡ 8
  length-both = length-zip2 bit_or bytes shifted (long ∙ sym length-shifted) ∙ long

  mixed_at : (j : ℕ) → j < 8 → get_or mixed_bytes j 0 ≡ mix (get_or bytes j 0)
  mixed_at j h =
      get_or-zip2 bit_and both (replicate 8 3855) j 0 0 0 (omega (arith, length-both)) h
      ∙ ap (bit_and (get_or both j 0)) (get_or-replicate 8 j 3855 0 h)
      ∙ ap (λ x. bit_and x 3855)
      (get_or-zip2 bit_or bytes shifted j 0 0 0 (omega (arith, long))
      (omega (arith, length-shifted))
      ∙ ap (bit_or (get_or bytes j 0))
      (get_or-zip2 (λ x s. x * 2 ^ s % 2 ^ 16) bytes (replicate 8 4) j 0 0 0
      (omega (arith, long)) h
      ∙ ap (λ s. get_or bytes j 0 * 2 ^ s % 2 ^ 16) (get_or-replicate 8 j 4 0 h)))

  length-mixed : length mixed_bytes ≡ 8
  length-mixed = length-zip2 bit_and both (replicate 8 3855) length-both ∙ length-both

  mixed_fits : Each1 (λ x. x < 65536) mixed_bytes
  mixed_fits = Each1-from_get_or (λ x. x < 65536) mixed_bytes 0 (λ j h.
      let x = get_or bytes j 0 in
      omega (
        arith,
        mixed_at j (omega (arith, length-mixed)),
        and_le_r (bit_or x (x * 2 ^ 4 % 2 ^ 16)) 3855,
      ))

  pub field_at : (i : ℕ) → i < 16 → get_or (digits_l 256 16 (number_l 65536 mixed_bytes)) i 0
      ≡ word / 2 ^ (4 * i) % 2 ^ 4
  field_at i h =
      let j = i / 2 in
      let r = i % 2 in
      let x = get_or bytes j 0 in
      let l = digits_l 256 16 (number_l 65536 mixed_bytes) in
      let place : i ≡ 2 * j + r = omega arith in
      let inside : j < 8 = omega arith in
      let few : r < 2 = omega arith in
      let digit : 8 * j + 4 * r ≡ 4 * i = omega arith in
      ap (λ k. get_or l k 0) place
      ∙ get_or_narrower 65536 2 256 16 mixed_bytes j r refl mixed_fits few (omega arith)
      ∙ ap (λ y. y / 256 ^ r % 256) (mixed_at j inside)
      ∙ field_of x r (omega (arith, each j inside)) few
      ∙ ap (λ y. y / 2 ^ (4 * r) % 2 ^ 4) (each j inside)
      ∙ field_in_byte (word / 2 ^ (8 * j)) r few
      ∙ ap (λ y. y % 2 ^ 4) (shr-shr word (8 * j) (4 * r))
      ∙ ap (λ n. word / 2 ^ n % 2 ^ 4) digit

-- ---- bits that move down
abbrev pub down : ℕ → ℕ → ℕ → ℕ
down x s by = x - bit_and x s + bit_and x s / 2 ^ by

moved_lane : (x y by : ℕ) → x < 2 ^ 8 → y ≤ x
    → ((x + (2 ^ 8 - y)) % 2 ^ 8 + y / 2 ^ by) % 2 ^ 8 ≡ x - y + y / 2 ^ by
moved_lane x y by fits less = omega (arith, shr_le y by)

module _ (xs which : List ℕ) (by : ℕ) (long : length xs ≡ 16) (same : length which ≡ 16)
    (small : Each1 (λ x. x < 2 ^ 8) xs) where
  abbrev moved : List ℕ
  moved = zip2 bit_and xs which

  abbrev stay : List ℕ
  stay = zip2 (λ x y. (x + (2 ^ 8 - y)) % 2 ^ 8) xs moved

  abbrev go : List ℕ
  go = zip2 (λ x s. x / 2 ^ s) moved (replicate 16 by)

  length-moved : length moved ≡ 16
  length-moved = length-zip2 bit_and xs which (long ∙ sym same) ∙ long

  length-stay : length stay ≡ 16
  length-stay = length-zip2 (λ x y. (x + (2 ^ 8 - y)) % 2 ^ 8) xs moved
      (long ∙ sym length-moved) ∙ long

  length-go : length go ≡ 16
  length-go = length-zip2 (λ x s. x / 2 ^ s) moved (replicate 16 by) length-moved ∙ length-moved

  pub length-down : length (zip2 (λ x y. (x + y) % 2 ^ 8) stay go) ≡ 16
  length-down = length-zip2 (λ x y. (x + y) % 2 ^ 8) stay go (length-stay ∙ sym length-go)
      ∙ length-stay

  pub down_at : (i : ℕ) → i < 16 → get_or (zip2 (λ x y. (x + y) % 2 ^ 8) stay go) i 0
      ≡ down (get_or xs i 0) (get_or which i 0) by
  down_at i h =
      let x = get_or xs i 0 in
      let y = bit_and x (get_or which i 0) in
      let m = get_or-zip2 bit_and xs which i 0 0 0 (omega (arith, long)) (omega (arith, same)) in
      get_or-zip2 (λ x y. (x + y) % 2 ^ 8) stay go i 0 0 0 (omega (arith, length-stay))
      (omega (arith, length-go))
      ∙ ap (λ t. (t + get_or go i 0) % 2 ^ 8)
      (get_or-zip2 (λ x y. (x + (2 ^ 8 - y)) % 2 ^ 8) xs moved i 0 0 0 (omega (arith, long))
      (omega (arith, length-moved)) ∙ ap (λ t. (x + (2 ^ 8 - t)) % 2 ^ 8) m)
      ∙ ap (λ t. ((x + (2 ^ 8 - y)) % 2 ^ 8 + t) % 2 ^ 8)
      (get_or-zip2 (λ x s. x / 2 ^ s) moved (replicate 16 by) i 0 0 0
      (omega (arith, length-moved)) h
      ∙ ap (λ s. get_or moved i 0 / 2 ^ s) (get_or-replicate 16 i by 0 h)
      ∙ ap (λ t. t / 2 ^ by) m)
      ∙ moved_lane x y by (Each1-get_or (λ x. x < 2 ^ 8) xs i 0 (omega (arith, long)) small)
      (and_le_l x (get_or which i 0))

-- ---- the tables
abbrev pub packed_four : ℕ → ℕ → ℕ
packed_four m x = down (down (bit_and x m) (get_or BY_ONE m 0) 1) (get_or BY_TWO m 0) 2

fours_packed : map (λ i. packed_four (i / 16) (i % 16)) (range_with_len 0 256)
    ≡ map (λ i. kept_number (i / 16) (i % 16) 0 4) (range_with_len 0 256)
unfolding digits
fours_packed = refl

pub packed_is : (m x : ℕ) → m < 16 → x < 16 → packed_four m x ≡ kept_number m x 0 4
packed_is m x few small =
    let i = 16 * m + x in
    let row : i / 16 ≡ m = omega arith in
    let column : i % 16 ≡ x = omega arith in
    ap (λ y. packed_four y x) (sym row) ∙ ap (packed_four (i / 16)) (sym column)
    ∙ sym (get_or-map-range_with_len (λ i. packed_four (i / 16) (i % 16)) 0 256 i i 0
    (omega arith) (zero-add i))
    ∙ ap (λ l. get_or l i 0) fours_packed
    ∙ get_or-map-range_with_len (λ i. kept_number (i / 16) (i % 16) 0 4) 0 256 i i 0
    (omega arith) (zero-add i)
    ∙ ap (λ y. kept_number y (i % 16) 0 4) row ∙ ap (λ y. kept_number m y 0 4) column

powers_table : POWERS ≡ map (λ m. 2 ^ count (digits m 0 4)) (range_with_len 0 16)
unfolding digits
powers_table = refl

pub power_of : (m : ℕ) → m < 16 → get_or POWERS m 0 ≡ 2 ^ count (digits m 0 4)
power_of m few =
    ap (λ l. get_or l m 0) powers_table
    ∙ get_or-map-range_with_len (λ m. 2 ^ count (digits m 0 4)) 0 16 m m 0 few (zero-add m)
