-- The bits of a word, deposited at the ones of a mask.
use Rattle.std.proofs.Common.{◌≡◌, inl, inr, ℕ, ◌+◌, ◌-◌, ◌*◌, ◌/◌, ◌%◌, ◌^◌, ◌<◌, ◌≤◌, Bool, true}
use Rattle.std.proofs.Common.{false, ◌&&◌, ◌||◌, length, get_or, take, drop, map, replicate, eqb}
use Rattle.std.proofs.Common.{refl, sym, ap, subst, ◌∙◌, arith, zero-add}
use Rattle.std.proofs.Math.Bool.{and-true, or-false, or_assoc}
use Rattle.std.specs.Int.{bit_at}
use Rattle.std.specs.Prelude.{count_ones}
use Rattle.std.specs.Int.Bits.{bit_and}
use Rattle.std.specs.List.{range_with_len}
use Rattle.std.specs.Simd.Lanes.{mask_l}
use Rattle.std.proofs.Math.Pow.{pow_mono}
use Rattle.std.proofs.lemmas.Bool.{cases_lt, eqb-false}
use Rattle.std.proofs.lemmas.List.{same_lists, get_or_default, take_at}
use Rattle.std.proofs.lemmas.List.FromFn.{get_or-map-range_with_len, take-map-range_with_len}
use Rattle.std.proofs.lemmas.List.Folds.{sum_by-replicate}
use Rattle.std.proofs.lemmas.Nat.{and_le_r, shr-shr, mod_below, pow_pos}
use Rattle.std.proofs.lemmas.Nat.Bits.{bit_at-zero, bit_at_ones, bit_at-lt, bit_at_above}
use Rattle.std.proofs.lemmas.Nat.Bits.{same_from_bits_below}
use Rattle.std.proofs.lemmas.Simd.{mask_l-lt}
use Rattle.vb_bits.specs.Bits.{at, count}
use Rattle.vb_bits.specs.Digits.{has_bit, digits}
use Rattle.vb_bits.proofs.BitsLemmas.{count-le}
use Rattle.vb_bits.proofs.DigitsLemmas.{length-digits, at-digits, same_digits, has_bit-or}
use Rattle.vb_bits.proofs.DigitsLemmas.{has_bit-and, count-digits-add, ones_masked, digits-add}
use Rattle.vb_bits.proofs.ShiftLemmas.{shl_low, shl_high, bit_at_cut, has_bit_shr}
use Rattle.vb_pack.proofs.MaskLemmas.{digits-mask_l}
use Rattle.vb_pack.proofs.WordsLemmas.{has_bit_above}
use Rattle.vb_filter.specs.Spread.{spread_by}
use Rattle.vb_filter.specs.declared.spread_table.TheConstants.{SPREAD}
use Rattle.vb_filter.proofs.PendingLemmas.{joined}
use Rattle.vb_filter.proofs.RunsLemmas.{digits_same}
use Rattle.vb_filter.proofs.SpreadLemmas.{at-spread_by, length-spread_by, spread_by-append}

-- bit i of a word whose bits are deposited at the ones of a mask
abbrev pub spread_digit : ℕ → ℕ → ℕ → Bool
spread_digit mask word i = has_bit mask i && has_bit word (count (digits mask 0 i))

-- a range has at most as many ones as bits
pub ones-le : (w a k : ℕ) → count (digits w a k) ≤ k
ones-le w a k = omega (arith, count-le (digits w a k), length-digits w a k)

-- the bits of 0
pub zero_digits : (n : ℕ) → digits 0 0 n ≡ replicate n false
zero_digits n = digits_same 0 0 n false (λ i h. ap (λ x. eqb x 1) (bit_at-zero (0 + i)))

-- the first bits of a range
pub front : (w i k : ℕ) → i ≤ k → take i (digits w 0 k) ≡ digits w 0 i
unfolding digits
front w i k le = take-map-range_with_len (has_bit w) 0 k i le

-- it is a value of the deposit of lists
pub at-spread_digits : (mask word k i : ℕ) (d : Bool) → i < k
    → get_or (spread_by (digits mask 0 k) (digits word 0 k)) i d ≡ spread_digit mask word i
at-spread_digits mask word k i d within =
    let m = digits mask 0 k in
    let w = digits word 0 k in
    let size = length-digits mask 0 k in
    let rank : count (take i m) ≡ count (digits mask 0 i) =
    ap count (front mask i k (omega arith)) in
    let few : count (digits mask 0 i) < k = omega (arith, ones-le mask 0 i) in
    get_or_default (spread_by m w) i d false (omega (arith, length-spread_by m w))
    ∙ at-spread_by m w i (omega arith)
    ∙ ap (λ b. b && at w (count (take i m)))
    (at-digits mask 0 k i false within ∙ ap (has_bit mask) (zero-add i))
    ∙ ap (λ b. has_bit mask i && b) (ap (at w) rank
    ∙ at-digits word 0 k (count (digits mask 0 i)) false few
    ∙ ap (has_bit word) (zero-add (count (digits mask 0 i))))

-- a word that has those bits
pub is_spread : (r mask word : ℕ)
    → ((i : ℕ) → i < 64 → has_bit r i ≡ spread_digit mask word i)
    → digits r 0 64 ≡ spread_by (digits mask 0 64) (digits word 0 64)
is_spread r mask word each =
    same_lists _ _ (length-digits r 0 64
    ∙ sym (length-spread_by (digits mask 0 64) (digits word 0 64) ∙ length-digits mask 0 64))
    (λ i d h.
    let here : i < 64 = omega (arith, length-digits r 0 64) in
    at-digits r 0 64 i d here ∙ ap (has_bit r) (zero-add i) ∙ each i here
    ∙ sym (at-spread_digits mask word 64 i d here))

-- two words with the same lowest bits
pub same_digit : (v w n i : ℕ) → digits v 0 n ≡ digits w 0 n → i < n → has_bit v i ≡ has_bit w i
same_digit v w n i same within =
    sym (at-digits v 0 n i false within ∙ ap (has_bit v) (zero-add i))
    ∙ ap (λ l. get_or l i false) same
    ∙ at-digits w 0 n i false within ∙ ap (has_bit w) (zero-add i)

-- ---- bits moved up in a word
-- below that position
placed_low : (v a i : ℕ) → i < 64 → i < a → has_bit (v * 2 ^ a % 2 ^ 64) i ≡ false
placed_low v a i within below =
    ap (λ x. eqb x 1) (bit_at_cut (v * 2 ^ a) 64 i within ∙ shl_low v a i below)

-- from that position on
placed_high : (v a i : ℕ) → i < 64 → a ≤ i → has_bit (v * 2 ^ a % 2 ^ 64) i ≡ has_bit v (i - a)
placed_high v a i within above =
    ap (λ x. eqb x 1) (bit_at_cut (v * 2 ^ a) 64 i within ∙ shl_high v a i above)

-- ---- the lowest run of the ones of a mask that are left
module _ (left source v a b rest : ℕ) (some : a < b)
    (below : (i : ℕ) → i < a → has_bit left i ≡ false)
    (ones : (i : ℕ) → a ≤ i → i < b → has_bit left i ≡ true)
    (gone : (i : ℕ) → i < b → has_bit rest i ≡ false)
    (kept : (i : ℕ) → b ≤ i → i < 64 → has_bit rest i ≡ has_bit left i)
    (few : v < 2 ^ (b - a))
    (same : (j : ℕ) → j < b - a → has_bit v j ≡ has_bit source j) where
  -- the number of ones before a bit of the run
  count_in : (i : ℕ) → a ≤ i → i ≤ b → count (digits left 0 i) ≡ i - a
  count_in i lo hi =
      let cut : i ≡ a + (i - a) = omega arith in
      let none : count (digits left 0 a) ≡ 0 =
      ap count (digits_same left 0 a false (λ j h. ap (has_bit left) (zero-add j) ∙ below j h))
      ∙ sum_by-replicate _ a false ∙ omega arith in
      let all : count (digits left a (i - a)) ≡ i - a =
      ap count (digits_same left a (i - a) true (λ j h. ones (a + j) (omega arith) (omega arith)))
      ∙ sum_by-replicate _ (i - a) true ∙ omega arith in
      ap (λ x. count (digits left 0 x)) cut
      ∙ count-digits-add left 0 a (i - a)
      ∙ omega (arith, none, all, ap (λ x. count (digits left x (i - a))) (zero-add a))

  -- the number of ones before a bit after the run
  count_past : (i : ℕ) → b ≤ i → i < 64
      → count (digits left 0 i) ≡ b - a + count (digits rest 0 i)
  count_past i lo hi =
      let cut : i ≡ b + (i - b) = omega arith in
      let none : count (digits rest 0 b) ≡ 0 =
      ap count (digits_same rest 0 b false (λ j h. ap (has_bit rest) (zero-add j) ∙ gone j h))
      ∙ sum_by-replicate _ b false ∙ omega arith in
      let alike : count (digits left b (i - b)) ≡ count (digits rest b (i - b)) =
      ap count (same_digits left rest b b (i - b)
      (λ j h. sym (kept (b + j) (omega arith) (omega arith)))) in
      let place : 0 + b ≡ b = omega arith in
      omega (
        arith,
        ap (λ x. count (digits left 0 x)) cut,
        ap (λ x. count (digits rest 0 x)) cut,
        count-digits-add left 0 b (i - b),
        count-digits-add rest 0 b (i - b),
        ap (λ x. count (digits left x (i - b))) place,
        ap (λ x. count (digits rest x (i - b))) place,
        count_in b (omega arith) (omega arith),
        none,
        alike,
      )

  -- a bit is one of the run, or one of those after it
  cut_digit : (i : ℕ) → i < 64 → spread_digit left source i
      ≡ (has_bit (v * 2 ^ a % 2 ^ 64) i || spread_digit rest (source / 2 ^ (b - a)) i)
  cut_digit i within = elim (cases_lt i b) [
    | inl before ↦
        let none : spread_digit rest (source / 2 ^ (b - a)) i ≡ false =
        ap (λ x. x && has_bit (source / 2 ^ (b - a)) (count (digits rest 0 i))) (gone i before) in
        elim (cases_lt i a) [
          | inl lower ↦
              ap (λ x. x && has_bit source (count (digits left 0 i))) (below i lower)
              ∙ sym (ap (λ x. x || spread_digit rest (source / 2 ^ (b - a)) i)
              (placed_low v a i within lower) ∙ none)
          | inr inside ↦
              ap (λ x. x && has_bit source (count (digits left 0 i))) (ones i inside before)
              ∙ ap (has_bit source) (count_in i inside (omega arith))
              ∙ sym (ap (λ x. has_bit (v * 2 ^ a % 2 ^ 64) i || x) none
              ∙ or-false (has_bit (v * 2 ^ a % 2 ^ 64) i) ∙ placed_high v a i within inside
              ∙ same (i - a) (omega arith))
        ]
    | inr behind ↦
        ap (λ x. x && has_bit source (count (digits left 0 i))) (sym (kept i behind within))
        ∙ ap (λ x. has_bit rest i && x) (ap (has_bit source) (count_past i behind within)
        ∙ sym (has_bit_shr source (b - a) (count (digits rest 0 i))))
        ∙ sym (ap (λ x. x || spread_digit rest (source / 2 ^ (b - a)) i)
        (placed_high v a i within (omega arith)
        ∙ has_bit_above v (b - a) (i - a) few (omega arith)))
  ]

-- the bits deposited so far, and those for the ones that are left, are those of the mask
abbrev pub SpreadSoFar : ℕ → ℕ → ℕ → ℕ → ℕ → Type 0
SpreadSoFar spread left source mask word =
    (i : ℕ) → i < 64 → (has_bit spread i || spread_digit left source i) ≡ spread_digit mask word i

-- no bits so far
pub spread_first : (mask word : ℕ) → SpreadSoFar 0 mask word mask word
spread_first mask word i within =
    ap (λ x. eqb x 1 || spread_digit mask word i) (bit_at-zero i)

-- the bits of one more run
pub spread_more : (spread left source mask word v a b rest : ℕ)
    → SpreadSoFar spread left source mask word → a < b
    → ((i : ℕ) → i < a → has_bit left i ≡ false)
    → ((i : ℕ) → a ≤ i → i < b → has_bit left i ≡ true)
    → ((i : ℕ) → i < b → has_bit rest i ≡ false)
    → ((i : ℕ) → b ≤ i → i < 64 → has_bit rest i ≡ has_bit left i)
    → v < 2 ^ (b - a) → ((j : ℕ) → j < b - a → has_bit v j ≡ has_bit source j)
    → SpreadSoFar (joined spread v a) rest (source / 2 ^ (b - a)) mask word
spread_more spread left source mask word v a b rest so_far some below ones gone kept few same i
    within =
    let others = spread_digit rest (source / 2 ^ (b - a)) i in
    ap (λ x. x || others) (has_bit-or spread (v * 2 ^ a % 2 ^ 64) i)
    ∙ or_assoc (has_bit spread i) (has_bit (v * 2 ^ a % 2 ^ 64) i) others
    ∙ ap (λ x. has_bit spread i || x)
    (sym (cut_digit left source v a b rest some below ones gone kept few same i within))
    ∙ so_far i within

-- all bits
pub spread_last : (spread left source mask word : ℕ) → left ≡ 0
    → SpreadSoFar spread left source mask word
    → digits spread 0 64 ≡ spread_by (digits mask 0 64) (digits word 0 64)
spread_last spread left source mask word gone so_far =
    is_spread spread mask word (λ i within.
    let none : has_bit left i ≡ false =
    ap (λ x. has_bit x i) gone ∙ ap (λ x. eqb x 1) (bit_at-zero i) in
    sym (or-false (has_bit spread i))
    ∙ ap (λ x. has_bit spread i || (x && has_bit source (count (digits left 0 i)))) (sym none)
    ∙ so_far i within)

-- ---- six bits at a time
-- the table has the deposits of all words of six bits, by all masks of six bits
spread_table : map (λ i. mask_l (spread_by (digits (i / 64) 0 6) (digits (i % 64) 0 6)))
    (range_with_len 0 4096) ≡ SPREAD
unfolding digits
spread_table = refl

-- an entry of the table
in_table : (m w : ℕ) → m < 64 → w < 64
    → get_or SPREAD (64 * m + w) 0 ≡ mask_l (spread_by (digits m 0 6) (digits w 0 6))
in_table m w few small =
    let i = 64 * m + w in
    let row : i / 64 ≡ m = omega arith in
    let column : i % 64 ≡ w = omega arith in
    ap (λ t. get_or t i 0) (sym spread_table)
    ∙ get_or-map-range_with_len
    (λ i. mask_l (spread_by (digits (i / 64) 0 6) (digits (i % 64) 0 6))) 0 4096 i i 0 (omega arith)
    (zero-add i)
    ∙ ap (λ x. mask_l (spread_by (digits x 0 6) (digits (i % 64) 0 6))) row
    ∙ ap (λ x. mask_l (spread_by (digits m 0 6) (digits x 0 6))) column

length-six : (m w : ℕ) → length (spread_by (digits m 0 6) (digits w 0 6)) ≡ 6
length-six m w = length-spread_by (digits m 0 6) (digits w 0 6) ∙ length-digits m 0 6

-- the six lowest bits of a word
low_six : (w j : ℕ) → j < 6 → has_bit (bit_and w 63) j ≡ has_bit w j
low_six w j h =
    has_bit-and w 63 j ∙ ap (λ x. has_bit w j && eqb x 1) (bit_at_ones 6 j h)
    ∙ and-true (has_bit w j)

module _ (spread source mask word s : ℕ)
    (at_source : source ≡ word / 2 ^ count (digits mask 0 s))
    (low : (i : ℕ) → i < s → i < 64 → has_bit spread i ≡ spread_digit mask word i)
    (clear : (i : ℕ) → s ≤ i → i < 64 → has_bit spread i ≡ false) where
  abbrev six : ℕ
  six = bit_and (mask / 2 ^ s) 63

  abbrev found : ℕ
  found = get_or SPREAD (64 * six + bit_and source 63) 0

  found_is : found ≡ mask_l (spread_by (digits six 0 6) (digits (bit_and source 63) 0 6))
  found_is = in_table six (bit_and source 63) (omega (arith, and_le_r (mask / 2 ^ s) 63))
      (omega (arith, and_le_r source 63))

  -- a bit of the entry
  found_digit : (j : ℕ) → j < 6 → has_bit found j ≡ spread_digit mask word (s + j)
  found_digit j h =
      let l = spread_by (digits six 0 6) (digits (bit_and source 63) 0 6) in
      let six_digit : (i : ℕ) → i < 6 → has_bit six i ≡ has_bit mask (s + i) =
      λ i g. low_six (mask / 2 ^ s) i g ∙ has_bit_shr mask s i in
      let ones : count (digits six 0 j) ≡ count (digits mask s j) =
      ap count (same_digits six mask 0 s j
      (λ i g. ap (has_bit six) (zero-add i) ∙ six_digit i (omega arith))) in
      let r = count (digits mask s j) in
      let few : r < 6 = omega (arith, ones-le mask s j) in
      let rank : count (digits mask 0 s) + r ≡ count (digits mask 0 (s + j)) = omega (
        arith,
        count-digits-add mask 0 s j,
        ap (λ x. count (digits mask x j)) (zero-add s),
      ) in
      ap (λ x. has_bit x j) found_is
      ∙ sym (at-digits (mask_l l) 0 6 j false h ∙ ap (has_bit (mask_l l)) (zero-add j))
      ∙ ap (λ k. get_or k j false) (digits-mask_l l 6 (length-six six (bit_and source 63)))
      ∙ at-spread_digits six (bit_and source 63) 6 j false h
      ∙ ap (λ x. x && has_bit (bit_and source 63) (count (digits six 0 j))) (six_digit j h)
      ∙ ap (λ x. has_bit mask (s + j) && x) (ap (has_bit (bit_and source 63)) ones
      ∙ low_six source r few ∙ ap (λ x. has_bit x r) at_source
      ∙ has_bit_shr word (count (digits mask 0 s)) r ∙ ap (has_bit word) rank)

  pub sixes-low : (i : ℕ) → i < s + 6 → i < 64
      → has_bit (joined spread found s) i ≡ spread_digit mask word i
  sixes-low i inside within =
      has_bit-or spread (found * 2 ^ s % 2 ^ 64) i ∙ elim (cases_lt i s) [
        | inl before ↦
            ap (λ x. has_bit spread i || x) (placed_low found s i within before)
            ∙ or-false (has_bit spread i) ∙ low i before within
        | inr behind ↦
            let place : s + (i - s) ≡ i = omega arith in
            ap (λ x. x || has_bit (found * 2 ^ s % 2 ^ 64) i) (clear i behind within)
            ∙ placed_high found s i within behind
            ∙ found_digit (i - s) (omega arith) ∙ ap (spread_digit mask word) place
      ]

  pub sixes-clear : (i : ℕ) → s + 6 ≤ i → i < 64 → has_bit (joined spread found s) i ≡ false
  sixes-clear i behind within =
      let l = spread_by (digits six 0 6) (digits (bit_and source 63) 0 6) in
      let small : found < 2 ^ 6 = subst (λ x. x < 2 ^ 6) (sym found_is)
      (subst (λ x. mask_l l < 2 ^ x) (length-six six (bit_and source 63)) (mask_l-lt l)) in
      has_bit-or spread (found * 2 ^ s % 2 ^ 64) i
      ∙ ap (λ x. x || has_bit (found * 2 ^ s % 2 ^ 64) i) (clear i (omega arith) within)
      ∙ placed_high found s i within (omega arith)
      ∙ has_bit_above found 6 (i - s) small (omega arith)

  pub sixes-source : source / 2 ^ count_ones six ≡ word / 2 ^ count (digits mask 0 (s + 6))
  sixes-source =
      let ones : count_ones six ≡ count (digits mask s 6) = ones_masked mask s 6 (omega arith) in
      let n : ℕ = count (digits mask 0 s) in
      let rank : n + count_ones six ≡ count (digits mask 0 (s + 6)) = omega (
        arith,
        ones,
        count-digits-add mask 0 s 6,
        ap (λ x. count (digits mask x 6)) (zero-add s),
      ) in
      ap (λ x. x / 2 ^ count_ones six) at_source ∙ shr-shr word n (count_ones six)
      ∙ ap (λ x. word / 2 ^ x) rank

-- ---- a deposit by a mask of n bits
module _ (r mask word n : ℕ)
    (spread : digits r 0 64 ≡ spread_by (digits mask 0 64) (digits word 0 64))
    (few : n ≤ 64) where
  -- its first n bits
  pub spread-narrow : digits r 0 n ≡ spread_by (digits mask 0 n) (digits word 0 64)
  spread-narrow =
      let w = digits word 0 64 in
      let m = digits mask 0 n in
      let behind = digits mask (0 + n) (64 - n) in
      let all : 64 ≡ n + (64 - n) = omega arith in
      sym (front r n 64 few) ∙ ap (take n) (spread
      ∙ ap (λ l. spread_by l w) (ap (digits mask 0) all ∙ digits-add mask 0 n (64 - n))
      ∙ spread_by-append m behind w)
      ∙ take_at (spread_by m w) (spread_by behind (drop (count m) w)) n
      (length-spread_by m w ∙ length-digits mask 0 n)

  -- it has no ones after them
  pub spread-lt : r < 2 ^ 64 → mask < 2 ^ n → r < 2 ^ n
  spread-lt fits clear =
      let none : (i : ℕ) → n ≤ i → i < 64 → bit_at r i ≡ 0 =
      λ i past within.
      let off : has_bit r i ≡ false =
      ap (has_bit r) (sym (zero-add i)) ∙ sym (at-digits r 0 64 i false within)
      ∙ ap (λ l. get_or l i false) spread ∙ at-spread_digits mask word 64 i false within
      ∙ ap (λ x. x && has_bit word (count (digits mask 0 i)))
      (has_bit_above mask n i clear past) in
      omega (arith, eqb-false (bit_at r i) 1 off, bit_at-lt r i) in
      let cut : r % 2 ^ n < 2 ^ n = mod_below r (2 ^ n) (pow_pos n) in
      let wide : 2 ^ n ≤ 2 ^ 64 = pow_mono few in
      let same : r ≡ r % 2 ^ n =
      same_from_bits_below 64 r (r % 2 ^ n) fits (omega arith) (λ i within.
      elim (cases_lt i n) [
        | inl before ↦ sym (bit_at_cut r n i before)
        | inr past ↦ none i past within
            ∙ sym (bit_at_above (r % 2 ^ n) n i cut past)
      ]) in
      omega arith
