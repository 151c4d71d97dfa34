-- Four elements of four bytes that are moved at once.
use Rattle.std.proofs.Common.{◌≡◌, ℕ, zero, suc, ◌+◌, ◌-◌, ◌*◌, ◌/◌, ◌%◌, ◌<◌, ◌≤◌, List, [], ◌∷◌}
use Rattle.std.proofs.Common.{◌++◌, length, take, drop, get_or, set, refl, sym, ap, subst, ◌∙◌}
use Rattle.std.proofs.Common.{arith, w8, append_assoc, zero-add, div-lt_iff_lt-mul, ◌^◌}
use Rattle.std.specs.Int.{w32, to_le_bytes}
use Rattle.std.specs.Int.Bits.{bit_and}
use Rattle.std.specs.Simd.Lanes.{number_l, digits_l}
use Rattle.std.specs.Prelude.{count_ones, slice_range}
use Rattle.std.proofs.lemmas.List.{length-take-le, take-append-le, drop_at, take_at, take_all}
use Rattle.std.proofs.lemmas.List.{drop_more, drop-drop, append-nil}
use Rattle.std.proofs.lemmas.Nat.{and_mask, mod_below, pow_pos, pow-add}
use Rattle.std.proofs.Math.Seq.{take-append-add}
use Rattle.std.proofs.lemmas.Simd.{swz_l}
use Rattle.vb_bits.specs.Bits.{count}
use Rattle.vb_bits.specs.Digits.{digits}
use Rattle.vb_bits.specs.Kept.{kept_by}
use Rattle.vb_bits.proofs.DigitsLemmas.{digits-add, digits_part, length-digits}
use Rattle.vb_bits.proofs.DigitsLemmas.{count-digits_below, count-digits-add}
use Rattle.vb_bits.proofs.KeptLemmas.{kept_by-append}
use Rattle.vb_bits.proofs.ShiftLemmas.{digits_shr}
use Rattle.vb_filter.proofs.FilteredBits.{front-add}
use Rattle.vb_filter.specs.declared.filter_elements.TheConstants.{KEPT_BYTES}

-- a property of each list of four items
pub four_of : (P : List ℕ → Type 0) → ((a b c d : ℕ) → P (a ∷ b ∷ c ∷ d ∷ []))
    → (xs : List ℕ) → length xs ≡ 4 → P xs
four_of P p (a ∷ b ∷ c ∷ d ∷ []) h = p a b c d
four_of P p [] h = absurd (omega arith)
four_of P p (a ∷ []) h = absurd (omega arith)
four_of P p (a ∷ b ∷ []) h = absurd (omega arith)
four_of P p (a ∷ b ∷ c ∷ []) h = absurd (omega arith)
four_of P p (a ∷ b ∷ c ∷ d ∷ e ∷ xs) h = absurd (omega arith)

below_four : (P : ℕ → Type 0) → P 0 → P 1 → P 2 → P 3 → (j : ℕ) → j < 4 → P j
below_four P p0 p1 p2 p3 zero h = p0
below_four P p0 p1 p2 p3 (suc zero) h = p1
below_four P p0 p1 p2 p3 (suc (suc zero)) h = p2
below_four P p0 p1 p2 p3 (suc (suc (suc zero))) h = p3
below_four P p0 p1 p2 p3 (suc (suc (suc (suc n)))) h = absurd (omega arith)

-- a property of each number below 16
below_sixteen : (P : ℕ → Type 0) → P 0 → P 1 → P 2 → P 3 → P 4 → P 5 → P 6 → P 7 → P 8 → P 9
    → P 10 → P 11 → P 12 → P 13 → P 14 → P 15 → (k : ℕ) → k < 16 → P k
below_sixteen P a0 a1 a2 a3 b0 b1 b2 b3 c0 c1 c2 c3 d0 d1 d2 d3 k h =
    let place : 4 * (k / 4) + k % 4 ≡ k = omega arith in
    subst P place (below_four (λ row. (column : ℕ) → column < 4 → P (4 * row + column))
    (below_four _ a0 a1 a2 a3) (below_four _ b0 b1 b2 b3) (below_four _ c0 c1 c2 c3)
    (below_four _ d0 d1 d2 d3) (k / 4) (omega arith) (k % 4) (omega arith))

-- ---- four items of a list
module _ {T : Type 0} where
  pub four_items : (xs : List T) (a b c d : T) → length xs ≡ 4 → a ≡ get_or xs 0 a
      → b ≡ get_or xs 1 b → c ≡ get_or xs 2 c → d ≡ get_or xs 3 d → xs ≡ a ∷ b ∷ c ∷ d ∷ []
  four_items (x ∷ y ∷ z ∷ w ∷ []) a b c d h p q r s =
      λ i. sym p i ∷ sym q i ∷ sym r i ∷ sym s i ∷ []
  four_items [] a b c d h p q r s = absurd (omega arith)
  four_items (x ∷ []) a b c d h p q r s = absurd (omega arith)
  four_items (x ∷ y ∷ []) a b c d h p q r s = absurd (omega arith)
  four_items (x ∷ y ∷ z ∷ []) a b c d h p q r s = absurd (omega arith)
  four_items (x ∷ y ∷ z ∷ w ∷ v ∷ xs) a b c d h p q r s = absurd (omega arith)

  four_set : (xs : List T) (i : ℕ) (a b c d : T) → i + 4 ≤ length xs
      → set (set (set (set xs i a) (suc i) b) (suc (suc i)) c) (suc (suc (suc i))) d
      ≡ take i xs ++ (a ∷ b ∷ c ∷ d ∷ drop (suc (suc (suc (suc i)))) xs)
  four_set [] i a b c d h = absurd (omega arith)
  four_set (x ∷ []) zero a b c d h = absurd (omega arith)
  four_set (x ∷ y ∷ []) zero a b c d h = absurd (omega arith)
  four_set (x ∷ y ∷ z ∷ []) zero a b c d h = absurd (omega arith)
  four_set (x ∷ y ∷ z ∷ w ∷ xs) zero a b c d h = refl
  four_set (x ∷ xs) (suc i) a b c d h = ap (λ l. x ∷ l) (four_set xs i a b c d (omega arith))

  pub set_four : (xs : List T) (i : ℕ) (a b c d : T) → i + 4 ≤ length xs
      → set (set (set (set xs i a) (i + 1) b) (i + 2) c) (i + 3) d
      ≡ take i xs ++ (a ∷ b ∷ c ∷ d ∷ drop (i + 4) xs)
  set_four xs i a b c d h =
      let one : i + 1 ≡ suc i = omega arith in
      let two : i + 2 ≡ suc (suc i) = omega arith in
      let three : i + 3 ≡ suc (suc (suc i)) = omega arith in
      let four : i + 4 ≡ suc (suc (suc (suc i))) = omega arith in
      ap (λ j. set (set (set (set xs i a) j b) (i + 2) c) (i + 3) d) one
      ∙ ap (λ j. set (set (set (set xs i a) (suc i) b) j c) (i + 3) d) two
      ∙ ap (λ j. set (set (set (set xs i a) (suc i) b) (suc (suc i)) c) j d) three
      ∙ four_set xs i a b c d h
      ∙ ap (λ j. take i xs ++ (a ∷ b ∷ c ∷ d ∷ drop j xs)) (sym four)

  pub drop_further : (xs ys : List T) (n m : ℕ) → n ≤ m → drop n xs ≡ drop n ys
      → drop m xs ≡ drop m ys
  drop_further xs ys n m le same =
      let place : m ≡ n + (m - n) = omega arith in
      ap (λ k. drop k xs) place ∙ sym (drop-drop (m - n) n xs) ∙ ap (drop (m - n)) same
      ∙ drop-drop (m - n) n ys ∙ sym (ap (λ k. drop k ys) place)

  module _ (old new : List T) (i : ℕ) (a b c d : T) (room : i + 4 ≤ length old)
      (is : new ≡ take i old ++ (a ∷ b ∷ c ∷ d ∷ drop (i + 4) old)) where
    length-before : length (take i old) ≡ i
    length-before = length-take-le i old (omega arith)

    -- the first n of them
    pub some_written : (n : ℕ) → n ≤ 4
        → take (i + n) new ≡ take i old ++ take n (a ∷ b ∷ c ∷ d ∷ [])
    some_written n few =
        ap (take (i + n)) is
        ∙ ap (λ k. take (k + n) (take i old ++ (a ∷ b ∷ c ∷ d ∷ drop (i + 4) old)))
        (sym length-before)
        ∙ take-append-add (take i old) (a ∷ b ∷ c ∷ d ∷ drop (i + 4) old) n
        ∙ ap (λ l. take i old ++ l)
        (take-append-le n (a ∷ b ∷ c ∷ d ∷ []) (drop (i + 4) old) (omega arith))

    -- the list from them on
    pub from_four : drop i new ≡ a ∷ b ∷ c ∷ d ∷ drop (i + 4) old
    from_four = ap (drop i) is ∙ drop_at (take i old) _ i length-before

    pub before_four : take i new ≡ take i old
    before_four = ap (take i) is ∙ take_at (take i old) _ i length-before

    pub behind_four : drop (i + 4) new ≡ drop (i + 4) old
    behind_four = sym (drop-drop 4 i new) ∙ ap (drop 4) from_four

  -- four items that are in the list
  pub four_there : (xs : List T) (i : ℕ) (a b c d : T) → i + 4 ≤ length xs → a ≡ get_or xs i a
      → b ≡ get_or xs (i + 1) b → c ≡ get_or xs (i + 2) c → d ≡ get_or xs (i + 3) d
      → drop i xs ≡ a ∷ b ∷ c ∷ d ∷ drop (i + 4) xs
  four_there xs i a b c d h p q r s =
      let two : i + 1 + 1 ≡ i + 2 = omega arith in
      let three : i + 2 + 1 ≡ i + 3 = omega arith in
      let four : i + 3 + 1 ≡ i + 4 = omega arith in
      drop_more xs i a (omega arith) ∙ ap (λ x. x ∷ drop (i + 1) xs) (sym p)
      ∙ ap (λ l. a ∷ l) (drop_more xs (i + 1) b (omega arith)
      ∙ ap (λ x. x ∷ drop (i + 1 + 1) xs) (sym q) ∙ ap (λ j. b ∷ drop j xs) two
      ∙ ap (λ l. b ∷ l) (drop_more xs (i + 2) c (omega arith)
      ∙ ap (λ x. x ∷ drop (i + 2 + 1) xs) (sym r) ∙ ap (λ j. c ∷ drop j xs) three
      ∙ ap (λ l. c ∷ l) (drop_more xs (i + 3) d (omega arith)
      ∙ ap (λ x. x ∷ drop (i + 3 + 1) xs) (sym s) ∙ ap (λ j. d ∷ drop j xs) four)))

-- ---- their bytes
le_bytes : (x : ℕ) → to_le_bytes w32 x
    ≡ x % 256 ∷ x / 256 % 256 ∷ x / 256 / 256 % 256 ∷ x / 256 / 256 / 256 % 256 ∷ []
le_bytes x =
    let second : x / 256 ^ 1 % 256 ≡ x / 256 % 256 = omega arith in
    let third : x / 256 ^ 2 % 256 ≡ x / 256 / 256 % 256 = omega arith in
    let fourth : x / 256 ^ 3 % 256 ≡ x / 256 / 256 / 256 % 256 = omega arith in
    λ i. x % 256 ∷ second i ∷ third i ∷ fourth i ∷ []

four_bytes : (n x r : ℕ) → x < 2 ^ 32
    → digits_l 256 (suc (suc (suc (suc n)))) (x + 4294967296 * r)
    ≡ to_le_bytes w32 x ++ digits_l 256 n r
four_bytes n x r fits =
    let y = x + 4294967296 * r in
    let first : y % 256 ≡ x % 256 = omega arith in
    let second : y / 256 % 256 ≡ x / 256 % 256 = omega arith in
    let third : y / 256 / 256 % 256 ≡ x / 256 / 256 % 256 = omega arith in
    let fourth : y / 256 / 256 / 256 % 256 ≡ x / 256 / 256 / 256 % 256 = omega arith in
    let rest : y / 256 / 256 / 256 / 256 ≡ r = omega arith in
    (λ i. first i ∷ second i ∷ third i ∷ fourth i ∷ digits_l 256 n (rest i))
    ∙ ap (λ l. l ++ digits_l 256 n r) (sym (le_bytes x))

pub four_forms : (w x y z : ℕ) (a b c d : List ℕ) → w < 2 ^ 32 → x < 2 ^ 32 → y < 2 ^ 32
    → z < 2 ^ 32 → to_le_bytes w32 w ≡ a → to_le_bytes w32 x ≡ b → to_le_bytes w32 y ≡ c
    → to_le_bytes w32 z ≡ d
    → digits_l 256 16 (number_l 4294967296 (w ∷ x ∷ y ∷ z ∷ [])) ≡ a ++ (b ++ (c ++ d))
four_forms w x y z a b c d fw fx fy fz p q r s =
    four_bytes 12 w (number_l 4294967296 (x ∷ y ∷ z ∷ [])) fw
    ∙ ap (λ l. to_le_bytes w32 w ++ l) (four_bytes 8 x (number_l 4294967296 (y ∷ z ∷ [])) fx
    ∙ ap (λ l. to_le_bytes w32 x ++ l) (four_bytes 4 y (number_l 4294967296 (z ∷ [])) fy
    ∙ ap (λ l. to_le_bytes w32 y ++ l) (four_bytes 0 z 0 fz ∙ append-nil (to_le_bytes w32 z))))
    ∙ (λ i. p i ++ (q i ++ (r i ++ s i)))

-- the elements of four that a mask selects
abbrev pub KeepsFour : (T : Type 0) → (List ℕ → T) → List ℕ → List ℕ → List ℕ → List ℕ → ℕ
    → Type 0
KeepsFour T value a b c d m =
    let kept = swz_l w8 16 (a ++ (b ++ (c ++ d))) 0 (get_or KEPT_BYTES m []) in
    take (count (digits m 0 4)) (value (slice_range kept 0 4) ∷ value (slice_range kept 4 8)
    ∷ value (slice_range kept 8 12) ∷ value (slice_range kept 12 16) ∷ [])
    ≡ kept_by (digits m 0 4) (value a ∷ value b ∷ value c ∷ value d ∷ [])

rows_keep : (T : Type 0) (value : List ℕ → T)
    (x0 x1 x2 x3 x4 x5 x6 x7 x8 x9 x10 x11 x12 x13 x14 x15 : ℕ) (m : ℕ) → m < 16
    → KeepsFour T value (x0 ∷ x1 ∷ x2 ∷ x3 ∷ []) (x4 ∷ x5 ∷ x6 ∷ x7 ∷ [])
    (x8 ∷ x9 ∷ x10 ∷ x11 ∷ []) (x12 ∷ x13 ∷ x14 ∷ x15 ∷ []) m
unfolding digits
rows_keep T value x0 x1 x2 x3 x4 x5 x6 x7 x8 x9 x10 x11 x12 x13 x14 x15 =
    below_sixteen (KeepsFour T value (x0 ∷ x1 ∷ x2 ∷ x3 ∷ []) (x4 ∷ x5 ∷ x6 ∷ x7 ∷ [])
    (x8 ∷ x9 ∷ x10 ∷ x11 ∷ []) (x12 ∷ x13 ∷ x14 ∷ x15 ∷ []))
    refl refl refl refl refl refl refl refl refl refl refl refl refl refl refl refl

pub keeps_four : (T : Type 0) (value : List ℕ → T) (a b c d : List ℕ) (m : ℕ) → m < 16
    → length a ≡ 4 → length b ≡ 4 → length c ≡ 4 → length d ≡ 4 → KeepsFour T value a b c d m
keeps_four T value a b c d m few la lb lc ld =
    four_of (λ a. KeepsFour T value a b c d m) (λ a0 a1 a2 a3.
    four_of (λ b. KeepsFour T value (a0 ∷ a1 ∷ a2 ∷ a3 ∷ []) b c d m) (λ b0 b1 b2 b3.
    four_of (λ c. KeepsFour T value (a0 ∷ a1 ∷ a2 ∷ a3 ∷ []) (b0 ∷ b1 ∷ b2 ∷ b3 ∷ []) c d m)
    (λ c0 c1 c2 c3. four_of (λ d. KeepsFour T value (a0 ∷ a1 ∷ a2 ∷ a3 ∷ [])
    (b0 ∷ b1 ∷ b2 ∷ b3 ∷ []) (c0 ∷ c1 ∷ c2 ∷ c3 ∷ []) d m)
    (λ d0 d1 d2 d3. rows_keep T value a0 a1 a2 a3 b0 b1 b2 b3 c0 c1 c2 c3 d0 d1 d2 d3 m few)
    d ld) c lc) b lb) a la

-- ---- a word of 2 n digits, by its halves
module _ (keep n m : ℕ) (mask : m ≡ 2 ^ n - 1) (clear : keep < 2 ^ (n + n)) where
  abbrev low : ℕ
  low = bit_and keep m

  low_is : low ≡ keep % 2 ^ n
  low_is = ap (bit_and keep) mask ∙ and_mask keep n

  low_digits : digits low 0 n ≡ digits keep 0 n
  low_digits =
      let here : keep / 2 ^ 0 ≡ keep = omega arith in
      ap (λ x. digits x 0 n) (low_is ∙ ap (λ x. x % 2 ^ n) (sym here)) ∙ digits_part keep 0 n

  high_digits : digits (keep / 2 ^ n) 0 n ≡ digits keep n n
  high_digits = digits_shr keep n n

  pub low_clear : low < 2 ^ n
  low_clear = subst (λ x. x < 2 ^ n) (sym low_is) (mod_below keep (2 ^ n) (pow_pos n))

  pub high_clear : keep / 2 ^ n < 2 ^ n
  high_clear = (div-lt_iff_lt-mul (pow_pos n)).1 (subst (λ x. keep < x) (pow-add 2 n n) clear)

  pub ones_halves : count_ones keep ≡ count_ones low + count_ones (keep / 2 ^ n)
  ones_halves =
      let place : 0 + n ≡ n = zero-add n in
      omega (
        arith,
        count-digits_below keep (n + n) clear,
        count-digits-add keep 0 n n,
        ap (λ a. count (digits keep a n)) place,
        count-digits_below low n low_clear,
        ap count low_digits,
        count-digits_below (keep / 2 ^ n) n high_clear,
        ap count high_digits,
      )

  module _ {T : Type 0} (values : List T) (long : length values ≡ n + n) where
    -- the elements that they select
    halves_kept : kept_by (digits low 0 n) (slice_range values 0 n)
        ++ kept_by (digits (keep / 2 ^ n) 0 n) (slice_range values n (n + n))
        ≡ kept_by (digits keep 0 (n + n)) values
    halves_kept =
        let place : 0 + n ≡ n = zero-add n in
        let all : n - 0 ≡ n = omega arith in
        let front : slice_range values 0 n ≡ take n values = ap (λ k. take k values) all in
        ap (λ l. kept_by (digits low 0 n) l
        ++ kept_by (digits (keep / 2 ^ n) 0 n) (slice_range values n (n + n))) front
        ∙ ap (λ d. kept_by d (take n values)
        ++ kept_by (digits (keep / 2 ^ n) 0 n) (slice_range values n (n + n))) low_digits
        ∙ ap (λ d. kept_by (digits keep 0 n) (take n values)
        ++ kept_by d (slice_range values n (n + n)))
        (high_digits ∙ ap (λ a. digits keep a n) (sym place))
        ∙ sym (kept_by-append (digits keep 0 n) (digits keep (0 + n) n) (take n values)
        (slice_range values n (n + n))
        (length-digits keep 0 n ∙ sym (length-take-le n values (omega arith))))
        ∙ ap (λ d. kept_by d (take n values ++ slice_range values n (n + n)))
        (sym (digits-add keep 0 n n))
        ∙ ap (kept_by (digits keep 0 (n + n))) (sym (front-add values n n)
        ∙ take_all (n + n) values (omega arith))

    -- one half written behind the other
    pub halves_written : (old mid new : List T) (len : ℕ)
        → take (len + count_ones low) mid
        ≡ take len old ++ kept_by (digits low 0 n) (slice_range values 0 n)
        → take (len + count_ones low + count_ones (keep / 2 ^ n)) new
        ≡ take (len + count_ones low) mid
        ++ kept_by (digits (keep / 2 ^ n) 0 n) (slice_range values n (n + n))
        → take (len + count_ones keep) new
        ≡ take len old ++ kept_by (digits keep 0 (n + n)) values
    halves_written old mid new len first second =
        let at : len + count_ones keep ≡ len + count_ones low + count_ones (keep / 2 ^ n) =
        omega (arith, ones_halves) in
        ap (λ k. take k new) at ∙ second
        ∙ ap (λ l. l ++ kept_by (digits (keep / 2 ^ n) 0 n) (slice_range values n (n + n))) first
        ∙ append_assoc (take len old) (kept_by (digits low 0 n) (slice_range values 0 n))
        (kept_by (digits (keep / 2 ^ n) 0 n) (slice_range values n (n + n)))
        ∙ ap (λ l. take len old ++ l) halves_kept

    -- the items after them are unchanged
    pub halves_behind : (old mid new : List T) (len : ℕ)
        → drop (len + count_ones low + 4) mid ≡ drop (len + count_ones low + 4) old
        → drop (len + count_ones low + count_ones (keep / 2 ^ n) + 4) new
        ≡ drop (len + count_ones low + count_ones (keep / 2 ^ n) + 4) mid
        → drop (len + count_ones keep + 4) new ≡ drop (len + count_ones keep + 4) old
    halves_behind old mid new len first second =
        let end : ℕ = len + count_ones keep + 4 in
        drop_further new mid _ end (omega (arith, ones_halves)) second
        ∙ drop_further mid old _ end (omega (arith, ones_halves)) first

-- the ones of words of eight and 16 digits
pub ones_of_fours : (keep : ℕ) → keep < 2 ^ 8
    → count_ones keep ≡ count_ones (bit_and keep 15) + count_ones (keep / 2 ^ 4)
ones_of_fours keep = ones_halves keep 4 15 refl

pub ones_of_eights : (keep : ℕ) → keep < 2 ^ 16
    → count_ones keep ≡ count_ones (bit_and keep 255) + count_ones (keep / 2 ^ 8)
ones_of_eights keep = ones_halves keep 8 255 refl

pub ruleset halves = (ones_of_fours, ones_of_eights)
