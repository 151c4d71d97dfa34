-- The last true value, and the last bit that is v before an index.
use Rattle.std.proofs.Common.{◌≡◌, inl, inr, ℕ, zero, suc, ◌+◌, ◌-◌, ◌*◌, ◌^◌, ◌<◌, ◌≤◌, Bool, true}
use Rattle.std.proofs.Common.{false, cond, eqb, List, [], ◌∷◌, ◌++◌, length, min, filter, Option}
use Rattle.std.proofs.Common.{Some, None, refl, sym, ap, ◌∙◌, arith, subst}
use Rattle.std.specs.List.{range_with_len, last_or}
use Rattle.std.specs.Int.{bit_at}
use Rattle.std.specs.Int.Count.{count_leading_zeros}
use Rattle.std.proofs.Math.Pow.{pow_mono}
use Rattle.std.proofs.Math.Nat.{pow-suc}
use Rattle.std.proofs.lemmas.Bool.{cases_lt, eqb-true}
use Rattle.std.proofs.lemmas.List.Elements.{filter-append}
use Rattle.std.proofs.lemmas.Nat.{leading_top}
use Rattle.std.proofs.lemmas.Nat.Bits.{bit_at_cat_high, bit_at_above}
use Rattle.vb_bits.specs.Bits.{bit_of, bits, at, places}
use Rattle.vb_bits.specs.Digits.{has_bit}
use Rattle.vb_bits.specs.Nearest.{IsPrevious}
use Rattle.vb_bits.specs.Runs.{last_place}
use Rattle.vb_count.specs.Hits.{hits}
use Rattle.vb_bits.proofs.BitsLemmas.{length-bits}
use Rattle.vb_bits.proofs.RangeLemmas.{range_with_len-add}
use Rattle.vb_bits.proofs.WindowLemmas.{digits-clear}
use Rattle.vb_count.proofs.HitsLemmas.{length-hits}
use Rattle.vb_select.specs.Matches.{ShowsBefore}
use Rattle.vb_select.proofs.NearestLemmas.{hit, at-hits, at-hits_past, Shows, shown_before}

-- the last item is the one at the end
last_or_push : (o : Option ℕ) (xs : List ℕ) (x : ℕ) → last_or o (xs ++ x ∷ []) ≡ Some x
last_or_push o [] x = refl
last_or_push o (y ∷ ys) x = last_or_push (Some y) ys x

-- a test that is false on a range selects none of it
filter_none : (t : ℕ → Bool) (a n : ℕ)
    → ((i : ℕ) → a ≤ i → i < a + n → t i ≡ false) → filter t (range_with_len a n) ≡ []
filter_none t a zero h = refl
filter_none t a (suc n) h =
    ap (λ b. cond b (a ∷ filter t (range_with_len (a + 1) n)) (filter t (range_with_len (a + 1) n)))
    (h a (omega arith) (omega arith))
    ∙ filter_none t (a + 1) n (λ i lo hi. h i (omega arith) (omega arith))

-- an index of a true value after which no value is true
last_place_some : (l : List Bool) (p : ℕ) → p < length l
    → at l p ≡ true → ((i : ℕ) → p < i → i < length l → at l i ≡ false) → last_place l ≡ Some p
unfolding places
last_place_some l p inside on off =
    let t : ℕ → Bool = at l in
    let k : ℕ = length l - (p + 1) in
    let size : length l ≡ p + suc k = omega arith in
    let rest : filter t (range_with_len (p + 1) k) ≡ [] =
    filter_none t (p + 1) k (λ i lo hi. off i (omega arith) (omega arith)) in
    let here : filter t (range_with_len p (suc k)) ≡ p ∷ [] =
    ap (λ b. cond b (p ∷ filter t (range_with_len (p + 1) k)) (filter t (range_with_len (p + 1) k)))
    on ∙ ap (λ xs. p ∷ xs) rest in
    let all : filter t (range_with_len 0 (length l)) ≡ filter t (range_with_len 0 p) ++ p ∷ [] =
    ap (λ n. filter t (range_with_len 0 n)) size ∙ ap (filter t) (range_with_len-add 0 p (suc k))
    ∙ filter-append t (range_with_len 0 p) (range_with_len (0 + p) (suc k))
    ∙ ap (λ a. filter t (range_with_len 0 p) ++ filter t (range_with_len a (suc k))) (let
    z : 0 + p ≡ p = omega arith in z) ∙ ap (λ xs. filter t (range_with_len 0 p) ++ xs) here in
    ap (last_or None) all ∙ last_or_push None (filter t (range_with_len 0 p)) p

-- no value is true
last_place_none : (l : List Bool) → ((i : ℕ) → i < length l → at l i ≡ false) → last_place l ≡ None
unfolding places
last_place_none l off =
    ap (last_or None) (filter_none (at l) 0 (length l) (λ i lo hi. off i (omega arith)))

-- the index of the last true value
pub IsPrevious-last : (l : List Bool) (n : ℕ) (r : Option ℕ)
    → length l ≡ n → IsPrevious l n r → r ≡ last_place l
IsPrevious-last l n None e p = sym (last_place_none l (λ i h. p i (omega arith)))
IsPrevious-last l n (Some j) e p =
    sym (last_place_some l j p.1 p.2 (λ i lo hi. p.3 i lo (omega arith)))

-- the highest set digit of a number
highest_one : (w k : ℕ) → 0 < w → w < 2 ^ k → (j : ℕ) × (count_leading_zeros k w + suc j ≡ k)
    × (has_bit w j ≡ true) × ((i : ℕ) → j < i → has_bit w i ≡ false)
highest_one w k some small =
    let top = leading_top k w some small in
    let j : ℕ = top.0 in
    let double : 2 ^ suc j ≡ 2 ^ j * 2 = pow-suc 2 j in
    let split : w ≡ 1 * 2 ^ j + (w - 2 ^ j) = omega (arith, top.2) in
    let one : bit_at 1 0 ≡ 1 = refl in
    let none : j - j ≡ 0 = omega arith in (
      j,
      top.1,
      ap (λ x. eqb x 1) (ap (λ x. bit_at x j) split ∙ bit_at_cat_high 1 j
          (w - 2 ^ j) j (omega (arith, top.3)) (omega arith) ∙ ap (bit_at 1) none ∙ one),
      λ i l. ap (λ x. eqb x 1) (bit_at_above w (suc j) i top.3 (omega arith)),
    )

-- ---- windows
-- the highest set digit of a word that shows k bits from index a on, if no bit after these is v
pub IsPrevious-word : (v : Bool) (b : List ℕ) (o n a k w : ℕ) → Shows v b o a k w
    → 0 < w → w < 2 ^ k → k ≤ 64 → a + k ≤ n
    → ((i : ℕ) → a + k ≤ i → i < n → at (hits v (bits b o n)) i ≡ false)
    → IsPrevious (hits v (bits b o n)) n (Some (a + (63 - count_leading_zeros 64 w)))
IsPrevious-word v b o n a k w shows some small few within off =
    let most : 2 ^ k ≤ 2 ^ 64 = pow_mono few in
    let top = highest_one w 64 some (omega arith) in
    let j : ℕ = top.0 in
    let inside : j < k = elim (cases_lt j k) [
      | inl l ↦ l
      | inr past ↦ let none : bit_at w j ≡ 0 = bit_at_above w k j small past in
          absurd (omega (arith, eqb-true (bit_at w j) 1 top.2))
    ] in
    let place : a + (63 - count_leading_zeros 64 w) ≡ a + j = omega (arith, top.1) in
    subst (λ p. IsPrevious (hits v (bits b o n)) n (Some p)) (sym place) (
      omega arith,
      omega (arith, length-hits v (bits b o n), length-bits b o n),
      at-hits v b o n (a + j) (omega arith) ∙ sym (shows j inside) ∙ top.2,
      λ i lo hi. elim (cases_lt i (a + k)) [
        | inl here ↦
            let e : o + (a + (i - a)) ≡ o + i = omega arith in
            at-hits v b o n i hi ∙ ap (λ x. hit v (bit_of b x)) (sym e)
            ∙ sym (shows (i - a) (omega arith)) ∙ top.3 (i - a) (omega arith)
        | inr past ↦ off i past hi
      ],
    )

-- the highest set digit of the last word of a window of at least 64 bits
pub IsPrevious-before : (v : Bool) (b : List ℕ) (o n t w : ℕ) → ShowsBefore v b (o + n) t w
    → 0 < w → w < 2 ^ 64 → 64 ≤ n
    → (count_leading_zeros 64 w < 64)
    × IsPrevious (hits v (bits b o n)) n (Some (n - 1 - count_leading_zeros 64 w))
IsPrevious-before v b o n t w shows some small many =
    let top = highest_one w 64 some small in
    let j : ℕ = top.0 in
    let inside : t ≤ j = elim (cases_lt j t) [
      | inl below ↦ let off = shows.clear j below in let on = top.2 in absurd cc
      | inr from ↦ from
    ] in
    let p : ℕ = n - 1 - count_leading_zeros 64 w in
    let place : 64 + p - n ≡ j = omega (arith, top.1) in (
      omega (arith, top.1),
      (
        omega (arith, top.1),
        omega (arith, top.1, length-hits v (bits b o n), length-bits b o n),
        at-hits v b o n p (omega (arith, top.1))
            ∙ sym (shown_before v b o n t w p shows (omega (arith, top.1)) (omega (arith, top.1)))
            ∙ ap (has_bit w) place ∙ top.2,
        λ i lo hi. at-hits v b o n i hi
            ∙ sym (shown_before v b o n t w i shows hi (omega (arith, top.1)))
            ∙ top.3 (64 + i - n) (omega (arith, top.1)),
      ),
    )

-- none of the bits of that word is v
pub off-before : (v : Bool) (b : List ℕ) (o n t w : ℕ) → ShowsBefore v b (o + n) t w → w ≡ 0
    → (i : ℕ) → t + n ≤ 64 + i → i < n → at (hits v (bits b o n)) i ≡ false
off-before v b o n t w shows none i lo hi = at-hits v b o n i hi
    ∙ sym (shown_before v b o n t w i shows hi lo)
    ∙ ap (λ x. has_bit x (64 + i - n)) none ∙ digits-clear (64 + i - n)

-- the last one in a front of the window is the last one in the window, if none is after it
pub IsPrevious_later : (v : Bool) (b : List ℕ) (o n m : ℕ) (r : Option ℕ) → m ≤ n
    → IsPrevious (hits v (bits b o m)) m r
    → ((i : ℕ) → m ≤ i → i < n → at (hits v (bits b o n)) i ≡ false)
    → IsPrevious (hits v (bits b o n)) n r
IsPrevious_later v b o n m r le p off = go r p
  where
    same : (i : ℕ) → i < m → at (hits v (bits b o n)) i ≡ at (hits v (bits b o m)) i
    same i l = at-hits v b o n i (omega arith) ∙ sym (at-hits v b o m i l)

    go : (r : Option ℕ) → IsPrevious (hits v (bits b o m)) m r
        → IsPrevious (hits v (bits b o n)) n r
    go None p = λ i h. elim (cases_lt i m) [
      | inl here ↦ same i here ∙ p i here
      | inr behind ↦ off i behind h
    ]
    go (Some j) p = (
      omega (arith, p.0),
      omega (arith, p.0, length-hits v (bits b o n), length-bits b o n),
      same j p.0 ∙ p.2,
      λ i lo hi. elim (cases_lt i m) [
        | inl here ↦ same i here ∙ p.3 i lo here
        | inr behind ↦ off i behind hi
      ],
    )

-- the last one in the front of `min n before` bits is the last one before index `before`
pub IsPrevious_longer : (v : Bool) (b : List ℕ) (o n m before : ℕ) (r : Option ℕ)
    → m ≡ min n before → IsPrevious (hits v (bits b o m)) m r
    → IsPrevious (hits v (bits b o n)) before r
IsPrevious_longer v b o n m before r e p = go r p
  where
    same : (i : ℕ) → i < m → at (hits v (bits b o n)) i ≡ at (hits v (bits b o m)) i
    same i l = at-hits v b o n i (omega arith) ∙ sym (at-hits v b o m i l)

    past : (i : ℕ) → m ≤ i → i < before → at (hits v (bits b o n)) i ≡ false
    past i lo hi = at-hits_past v b o n i (omega arith)

    go : (r : Option ℕ) → IsPrevious (hits v (bits b o m)) m r
        → IsPrevious (hits v (bits b o n)) before r
    go None p = λ i h. elim (cases_lt i m) [
      | inl here ↦ same i here ∙ p i here
      | inr behind ↦ past i behind h
    ]
    go (Some j) p = (
      omega (arith, p.0),
      omega (arith, p.0, length-hits v (bits b o n), length-bits b o n),
      same j p.0 ∙ p.2,
      λ i lo hi. elim (cases_lt i m) [
        | inl here ↦ same i here ∙ p.3 i lo here
        | inr behind ↦ past i behind hi
      ],
    )
