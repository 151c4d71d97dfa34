-- Writes to a block of 64 items, by the bits of a word.
use Rattle.std.proofs.Common.{◌≡◌, ℕ, ℤ, negsuc, ◌+◌, ◌-◌, ◌^◌, ◌<◌, ◌≤◌, ◌⊎◌, inl, inr, Bool, true}
use Rattle.std.proofs.Common.{false, not, cond, eqb, List, map, length, get_or, drop, Option, Some}
use Rattle.std.proofs.Common.{sym, ap, ◌∙◌, arith, zero-add}
use Rattle.std.proofs.lemmas.Bool.{cases_lt, cases_Bool, false≢true}
use Rattle.std.proofs.lemmas.List.{drop-drop, get_or-map}
use Rattle.std.proofs.lemmas.Nat.{and_le_l}
use Rattle.std.proofs.lemmas.Nat.Bits.{bit_at-trailing_zeros, bit_at_ones}
use Rattle.std.specs.Int.{bit_not, trailing_zeros, w64}
use Rattle.std.specs.Int.Bits.{bit_and}
use Rattle.std.specs.Prelude.{Result, Ok, Err, IfOk, IfErr}
use Rattle.vb_bits.specs.Digits.{has_bit, digits}
use Rattle.vb_bits.proofs.DigitsLemmas.{at-digits, has_bit-bit_not}
use Rattle.vb_take.specs.Takes.{is_valid, TakenTo}
use Rattle.vb_take.specs.ValueBlocks.{PutsOnes, FailsAt, PutsZeros}
use Rattle.vb_take.specs.ItemsTaken.{item_named, item_or, item_taken, IsFirstUntaken}
use Rattle.vb_take.proofs.ItemsLemmas.{first_here}
use Rattle.vb_walk.proofs.OnesLemmas.{lowest_off}

-- a property that holds for `Ok` and for `Err` holds
pub either_way : {X E : Type 0} (r : Result X E) (Q : Type 0) → IfOk r (λ _. Q)
    → IfErr r (λ _. Q) → Q
either_way (Ok x) Q p q = p
either_way (Err e) Q p q = q

-- two lists that are equal from an index on are equal from a later one on
pub drop_later : {T : Type 0} (n a : ℕ) (old new : List T) → a ≤ n → drop a new ≡ drop a old
    → drop n new ≡ drop n old
drop_later n a old new inside same =
    let place : n ≡ a + (n - a) = omega arith in
    ap (λ k. drop k new) place ∙ sym (drop-drop (n - a) a new) ∙ ap (drop (n - a)) same
    ∙ drop-drop (n - a) a old ∙ sym (ap (λ k. drop k old) place)

-- all bits of the greatest word are 1
pub full_digits : (k : ℕ) → k < 64 → has_bit (2 ^ 64 - 1) k ≡ true
full_digits k h = ap (λ x. eqb x 1) (bit_at_ones 64 k h)

-- the lowest bits of a word that are those of another word, negated
pub low_not : (word left n k : ℕ) → word < 2 ^ 64 → n ≤ 64 → k < n
    → digits left 0 n ≡ digits (bit_not w64 word) 0 n → has_bit left k ≡ not (has_bit word k)
low_not word left n k fits few h same =
    ap (has_bit left) (sym (zero-add k)) ∙ sym (at-digits left 0 n k false h)
    ∙ ap (λ d. get_or d k false) same ∙ at-digits (bit_not w64 word) 0 n k false h
    ∙ ap (has_bit (bit_not w64 word)) (zero-add k)
    ∙ has_bit-bit_not w64 word k fits (omega arith)

-- ---- the ones of a word that are left
module _ (left : ℕ) (some : 0 < left) (fits : left < 2 ^ 64) where
  -- the lowest one
  pub lowest_has : has_bit left (trailing_zeros w64 left) ≡ true
  lowest_has =
      let z = bit_at-trailing_zeros w64 left some fits in
      ap (λ x. eqb x 1) z.1

  pub lowest_few : trailing_zeros w64 left < 64
  lowest_few =
      let z = bit_at-trailing_zeros w64 left some fits in
      z.0

  -- none is below it
  pub below_lowest : (i : ℕ) → i < trailing_zeros w64 left → has_bit left i ≡ false
  below_lowest i h =
      let z = bit_at-trailing_zeros w64 left some fits in
      ap (λ x. eqb x 1) (z.2 i h)

  -- a bit that is 0 after the lowest one is cleared is the lowest one, or was 0 before
  pub left_gone : (i : ℕ) → has_bit (bit_and left (left - 1)) i ≡ false
      → (i ≡ trailing_zeros w64 left) ⊎ (has_bit left i ≡ false)
  left_gone i gone =
      let low : ℕ = trailing_zeros w64 left in
      let z = bit_at-trailing_zeros w64 left some fits in
      let off = lowest_off left low z.1 z.2 in
      elim (cases_lt i low) [
        | inl below ↦ inr (below_lowest i below)
        | inr up ↦ elim (cases_lt low i) [
          | inl above ↦ inr (sym (ap (λ x. eqb x 1) (off.1 i above)) ∙ gone)
          | inr back ↦ inl (omega arith)
        ]
      ]

  -- the next one is above it
  pub left_next : 0 < bit_and left (left - 1)
      → trailing_zeros w64 left < trailing_zeros w64 (bit_and left (left - 1))
  left_next more =
      let low : ℕ = trailing_zeros w64 left in
      let rest : ℕ = bit_and left (left - 1) in
      let z = bit_at-trailing_zeros w64 left some fits in
      let off = lowest_off left low z.1 z.2 in
      let rest_fits : rest < 2 ^ 64 = omega (arith, and_le_l left (left - 1)) in
      let y = bit_at-trailing_zeros w64 rest more rest_fits in
      elim (cases_lt low (trailing_zeros w64 rest)) [
        | inl behind ↦ behind
        | inr up ↦ absurd (omega (arith, y.1, off.0 (trailing_zeros w64 rest) up))
      ]

module _ {T X : Type 0} (f : X → ℤ) (zero : T) (items : List T) (xs : List X) where
  -- the item at an index that was read
  pub named_here : (k : ℕ) (x : X) (r : Option T) → k < length xs → x ≡ get_or xs k x
      → r ≡ item_named items (f x) → item_named items (get_or (map f xs) k (negsuc 0)) ≡ r
  named_here k x r h read e =
      ap (item_named items) (get_or-map f xs k x (negsuc 0) h ∙ ap f (sym read)) ∙ sym e

  module _ (v : Option (List Bool)) (a word : ℕ)
      (counts : (k : ℕ) → k < 64 → has_bit word k ≡ is_valid v (a + k)) where
    -- the positions before the block have the values that they take, and so do those of the block
    block_taken : (n : ℕ) (old new : List T) → n ≤ 64
        → TakenTo a (item_taken zero items (map f xs) v) (item_or zero old)
        → ((i : ℕ) → i < a → get_or new i zero ≡ get_or old i zero)
        → ((k : ℕ) → k < n → has_bit word k ≡ true
        → item_named items (get_or (map f xs) (a + k) (negsuc 0)) ≡ Some (get_or new (a + k) zero))
        → ((k : ℕ) → k < n → has_bit word k ≡ false → get_or new (a + k) zero ≡ zero)
        → TakenTo (a + n) (item_taken zero items (map f xs) v) (item_or zero new)
    block_taken n old new few before same ones zeros = λ i h. elim (cases_lt i a) [
      | inl low ↦ before i low ∙ ap Some (sym (same i low))
      | inr high ↦
          let k : ℕ = i - a in
          let place : a + k ≡ i = omega arith in
          let valid : is_valid v i ≡ has_bit word k =
          ap (is_valid v) (sym place) ∙ sym (counts k (omega arith)) in
          elim (cases_Bool (has_bit word k)) [
            | inl on ↦
                ap (λ b. cond b (item_named items (get_or (map f xs) i (negsuc 0))) (Some zero))
                (valid ∙ on)
                ∙ ap (λ j. item_named items (get_or (map f xs) j (negsuc 0))) (sym place)
                ∙ ones k (omega arith) on ∙ ap (λ j. Some (get_or new j zero)) place
            | inr off ↦
                ap (λ b. cond b (item_named items (get_or (map f xs) i (negsuc 0))) (Some zero))
                (valid ∙ off)
                ∙ ap Some (sym (ap (λ j. get_or new j zero) (sym place)
                ∙ zeros k (omega arith) off))
          ]
    ]

    -- all bits of the word are 1
    pub taken_full : (n : ℕ) (old new : List T) → n ≤ 64 → word ≡ 2 ^ 64 - 1
        → TakenTo a (item_taken zero items (map f xs) v) (item_or zero old)
        → PutsOnes zero items (map f xs) a (2 ^ 64 - 1) n old new
        → TakenTo (a + n) (item_taken zero items (map f xs) v) (item_or zero new)
    taken_full n old new few full before put =
        block_taken n old new few before
        (λ i h. put.kept i (omega arith) (λ at. absurd (omega arith)))
        (λ k h on. put.put k h (full_digits k (omega arith)))
        (λ k h off. absurd (false≢true (sym off ∙ ap (λ w. has_bit w k) full
        ∙ full_digits k (omega arith))))

    -- the positions whose bits are 1 have their items, and then the others zero
    pub taken_split : (n : ℕ) (old mid new : List T) → n ≤ 64
        → TakenTo a (item_taken zero items (map f xs) v) (item_or zero old)
        → PutsOnes zero items (map f xs) a word n old mid → PutsZeros zero a word n mid new
        → TakenTo (a + n) (item_taken zero items (map f xs) v) (item_or zero new)
    taken_split n old mid new few before put clear =
        block_taken n old new few before
        (λ i h. clear.kept i (omega arith) (λ at. absurd (omega arith))
        ∙ put.kept i (omega arith) (λ at. absurd (omega arith)))
        (λ k h on. put.put k h on
        ∙ ap Some (sym (clear.kept (a + k) (omega arith) (λ at.
        let place : a + k - a ≡ k = omega arith in
        ap (has_bit word) place ∙ on))))
        clear.put

    -- the position at which the writes stop is the first that takes no item
    pub stop_first : (p : ℕ) (old new out : List T)
        → FailsAt zero items (map f xs) a word p old new → a + 64 ≤ length xs
        → TakenTo p (item_taken zero items (map f xs) v) (item_or zero out)
        → IsFirstUntaken zero items (map f xs) v p
    stop_first p old new out stop inside before =
        let place : a + (p - a) ≡ p = omega (arith, stop.from) in
        let valid : is_valid v p ≡ true =
        ap (is_valid v) (sym place)
        ∙ sym (counts (p - a) (omega (arith, stop.within, stop.from))) ∙ stop.counts in
        first_here f zero items xs v p out before (omega (arith, stop.within))
        (ap (λ b. cond b (item_named items (get_or (map f xs) p (negsuc 0))) (Some zero)) valid
        ∙ stop.past)

-- the items from the position at which the writes stop are unchanged
pub stop_stays : {T : Type 0} (zero : T) (items : List T) (is : List ℤ) (a word p : ℕ)
    (old new : List T) → FailsAt zero items is a word p old new → drop p new ≡ drop p old
stop_stays zero items is a word p old new stop =
    let place : a + (p - a) ≡ p = omega (arith, stop.from) in
    ap (λ j. drop j new) (sym place) ∙ stop.put.behind ∙ ap (λ j. drop j old) place
