-- The nearest bit that is v, from an index on and before one.
use Rattle.std.proofs.Common.{◌≡◌, inl, inr, ℕ, suc, ◌+◌, ◌-◌, ◌*◌, ◌^◌, ◌<◌, ◌≤◌, Bool}
use Rattle.std.proofs.Common.{true, false, not, eqb, List, [], ◌∷◌, length, Option, Some, None}
use Rattle.std.proofs.Common.{◌/◌, ◌%◌, refl, sym, ap, ◌∙◌, subst, arith, zero-add, pow_mono}
use Rattle.std.proofs.lemmas.Bool.{cases_lt}
use Rattle.std.proofs.lemmas.List.{get_or_past}
use Rattle.std.proofs.lemmas.Nat.{shr_below}
use Rattle.std.proofs.lemmas.Nat.Bits.{bit_at_above, bit_at-trailing_zeros}
use Rattle.std.specs.Int.{trailing_zeros, w64}
use Rattle.std.specs.Prelude.{is_some, IsTrue, ◌↔◌}
use Rattle.vb_bits.specs.Bits.{bit_of, bits, at, count, complement}
use Rattle.vb_bits.specs.Digits.{has_bit, digits}
use Rattle.vb_bits.specs.Nearest.{IsNext}
use Rattle.vb_count.specs.Hits.{hits}
use Rattle.vb_select.specs.Matches.{ShowsBefore}
use Rattle.vb_walk.specs.Walks.{others, AreAll, IsOther}
use Rattle.vb_walk.specs.declared.other_word.OtherWord.{OtherWord}
use Rattle.vb_bits.proofs.BitsLemmas.{length-bits, at-bits, at-complement, count-cons}
use Rattle.vb_bits.proofs.BitsLemmas.{count-complement, count-take-lt}
use Rattle.vb_bits.proofs.DigitsLemmas.{at-digits, has_bit-bit_not}
use Rattle.vb_bits.proofs.ReadLemmas.{has_bit-bits}
use Rattle.vb_bits.proofs.ShiftLemmas.{has_bit_shr, shl_low, shl_high, bit_at_cut}
use Rattle.vb_bits.proofs.WindowLemmas.{digits-clear}
use Rattle.vb_count.proofs.HitsLemmas.{length-hits}

-- ---- whether a bit is v
-- whether x is v
abbrev pub hit : Bool → Bool → Bool
hit true x = x
hit false x = not x

-- a value that isn't v
pub hit_other : (v x : Bool) → x ≡ not v → hit v x ≡ false
hit_other true x e = e
hit_other false x e = ap not e

-- a value that isn't v is the other value
pub hit_none : (v x : Bool) → hit v x ≡ false → x ≡ not v
hit_none true x e = e
hit_none false true e = refl
hit_none false false e = absurd cc

-- a value of a window
pub at-hits : (v : Bool) (b : List ℕ) (o n i : ℕ)
    → i < n → at (hits v (bits b o n)) i ≡ hit v (bit_of b (o + i))
at-hits true b o n i l = at-bits b o n i false l
at-hits false b o n i l = at-complement (bits b o n) i (omega (arith, length-bits b o n))
    ∙ ap not (at-bits b o n i false l)

-- no hit is after the window
pub at-hits_past : (v : Bool) (b : List ℕ) (o n i : ℕ)
    → n ≤ i → at (hits v (bits b o n)) i ≡ false
at-hits_past v b o n i h = get_or_past (hits v (bits b o n)) i false
    (omega (arith, length-hits v (bits b o n), length-bits b o n))

-- a digit of a word with a 1 for each v
pub has_bit-others : (v : Bool) (w i : ℕ)
    → w < 2 ^ 64 → i < 64 → has_bit (others (not v) w) i ≡ hit v (has_bit w i)
has_bit-others true w i fits l = refl
has_bit-others false w i fits l = has_bit-bit_not w64 w i fits l

-- digit i of the word says whether bit a + i of a window is v, for i below k
abbrev pub Shows : Bool → List ℕ → ℕ → ℕ → ℕ → ℕ → Type 0
Shows v b o a k w = (i : ℕ) → i < k → has_bit w i ≡ hit v (bit_of b (o + (a + i)))

-- a word that was read, with a 1 for each v
pub Shows-matches : (v : Bool) (b : List ℕ) (o a k w : ℕ)
    → digits w 0 k ≡ hits v (bits b (o + a) k) → Shows v b o a k w
Shows-matches v b o a k w read i l =
    let e : o + a + i ≡ o + (a + i) = omega arith in
    ap (has_bit w) (sym (zero-add i)) ∙ sym (at-digits w 0 k i false l)
    ∙ ap (λ l. at l i) read ∙ at-hits v b (o + a) k i l ∙ ap (λ x. hit v (bit_of b x)) e

-- the same, from the front of a window on
pub Shows-window : (v : Bool) (b : List ℕ) (o k w : ℕ)
    → digits w 0 k ≡ hits v (bits b o k) → Shows v b o 0 k w
Shows-window v b o k w read =
    let e : o ≡ o + 0 = omega arith in
    Shows-matches v b o 0 k w (read ∙ ap (λ p. hits v (bits b p k)) e)

-- a word of eight bytes, without its digits below s
pub Shows-shifted : (v : Bool) (b : List ℕ) (o a f s w : ℕ)
    → digits w 0 64 ≡ bits b (8 * f) 64 → w < 2 ^ 64 → o + a ≡ 8 * f + s
    → Shows v b o a (64 - s) (others (not v) w / 2 ^ s)
Shows-shifted v b o a f s w read fits place i l =
    let e : 8 * f + (s + i) ≡ o + (a + i) = omega arith in
    has_bit_shr (others (not v) w) s i ∙ has_bit-others v w (s + i) fits (omega arith)
    ∙ ap (hit v) (has_bit-bits b w (8 * f) 64 (s + i) read (omega arith) ∙ ap (bit_of b) e)

-- a number without its digits below s
pub shifted_fits : (w s : ℕ) → w < 2 ^ 64 → s < 8 → w / 2 ^ s < 2 ^ (64 - s)
shifted_fits w s fits small =
    let e : 64 ≡ 64 - s + s = omega arith in
    shr_below w (64 - s) s (subst (λ k. w < 2 ^ k) e fits)

-- the digits of a word shifted up, below the shift and from it on
shifted_low : (w s i : ℕ) → i < s → i < 64 → has_bit (w * 2 ^ s % 2 ^ 64) i ≡ false
shifted_low w s i lo l = ap (λ x. eqb x 1) (bit_at_cut (w * 2 ^ s) 64 i l ∙ shl_low w s i lo)

shifted_high : (w s i : ℕ) → s ≤ i → i < 64 → has_bit (w * 2 ^ s % 2 ^ 64) i ≡ has_bit w (i - s)
shifted_high w s i hi l = ap (λ x. eqb x 1) (bit_at_cut (w * 2 ^ s) 64 i l ∙ shl_high w s i hi)

-- the word of the eight bytes that end with the byte of bit e - 1, without the bits from e on
pub ShowsBefore-shifted : (v : Bool) (b : List ℕ) (e f t w : ℕ)
    → digits w 0 64 ≡ bits b (8 * f) 64 → w < 2 ^ 64 → e + t ≡ 8 * f + 64 → t < 8
    → ShowsBefore v b e t (others (not v) w * 2 ^ t % 2 ^ 64)
ShowsBefore-shifted v b e f t w read fits place small = record {
  shown = λ i lo hi.
      let p : 8 * f + (i - t) ≡ 0 + (e + i - 64) = omega arith in
      shifted_high (others (not v) w) t i lo hi ∙ has_bit-others v w (i - t) fits (omega arith)
      ∙ ap (hit v) (has_bit-bits b w (8 * f) 64 (i - t) read (omega arith) ∙ ap (bit_of b) p)
      ∙ sym (at-hits v b 0 e (e + i - 64) (omega arith));
  clear = λ i lo. shifted_low (others (not v) w) t i lo (omega arith);
}

-- a bit of the window that ends before bit o + n, as a digit of that word
pub shown_before : (v : Bool) (b : List ℕ) (o n t w i : ℕ) → ShowsBefore v b (o + n) t w
    → i < n → t + n ≤ 64 + i → has_bit w (64 + i - n) ≡ hit v (bit_of b (o + i))
shown_before v b o n t w i shows l from =
    let p : 0 + (o + n + (64 + i - n) - 64) ≡ o + i = omega arith in
    shows.shown (64 + i - n) (omega arith) (omega arith)
    ∙ at-hits v b 0 (o + n) (o + n + (64 + i - n) - 64) (omega arith)
    ∙ ap (λ j. hit v (bit_of b j)) p

-- a word with a bit that isn't the other value
pub Shows-other : (v : Bool) (b : List ℕ) (o a at end : ℕ) (w : OtherWord)
    → IsOther b at end (not v) w → o + a ≡ 8 * (w.behind - 8)
    → Shows v b o a 64 (others (not v) w.word)
Shows-other v b o a at end w other place i l =
    let e : 8 * (w.behind - 8) + i ≡ o + (a + i) = omega arith in
    has_bit-others v w.word i other.fits l
    ∙ ap (hit v) (other.read i l ∙ ap (bit_of b) e)

-- ---- bits that aren't v
-- bits that are all the other value
pub off-passed : (v : Bool) (b : List ℕ) (o n x y : ℕ) → AreAll b (not v) x y
    → (i : ℕ) → x ≤ o + i → o + i < y → at (hits v (bits b o n)) i ≡ false
off-passed v b o n x y all i lo hi = elim (cases_lt i n) [
  | inl within ↦ at-hits v b o n i within ∙ hit_other v _ (all (o + i) lo hi)
  | inr past ↦ at-hits_past v b o n i past
]

-- bits whose digits are 0
pub off-digits : (v : Bool) (b : List ℕ) (o n a k w : ℕ) → Shows v b o a k w
    → ((i : ℕ) → i < k → has_bit w i ≡ false)
    → (i : ℕ) → a ≤ i → i < a + k → at (hits v (bits b o n)) i ≡ false
off-digits v b o n a k w shows none i lo hi = elim (cases_lt i n) [
  | inl within ↦
      let e : o + (a + (i - a)) ≡ o + i = omega arith in
      at-hits v b o n i within ∙ ap (λ x. hit v (bit_of b x)) (sym e)
      ∙ sym (shows (i - a) (omega arith)) ∙ none (i - a) (omega arith)
  | inr past ↦ at-hits_past v b o n i past
]

-- ---- the next one
-- from an earlier index on, if no bit between the two is v
pub IsNext_later : (l : List Bool) (a m : ℕ) (r : Option ℕ) → a ≤ m
    → ((i : ℕ) → a ≤ i → i < m → at l i ≡ false) → IsNext l m r → IsNext l a r
IsNext_later l a m None le off n = λ i h. elim (cases_lt i m) [
  | inl before ↦ off i h before
  | inr here ↦ n i here
]
IsNext_later l a m (Some p) le off n = (
  omega (arith, n.0),
  n.1,
  n.2,
  λ i lo hi. elim (cases_lt i m) [
    | inl before ↦ off i lo before
    | inr here ↦ n.3 i here hi
  ],
)

-- none in a window that ends before
pub IsNext_none : (v : Bool) (b : List ℕ) (o n a m : ℕ) → n ≤ m
    → ((i : ℕ) → a ≤ i → i < m → at (hits v (bits b o n)) i ≡ false)
    → IsNext (hits v (bits b o n)) a None
IsNext_none v b o n a m end off = λ i h. elim (cases_lt i m) [
  | inl before ↦ off i h before
  | inr past ↦ at-hits_past v b o n i (omega arith)
]

-- the lowest set digit of a number of k digits: none below it is set
pub lowest_one : (w k : ℕ) → 0 < w → w < 2 ^ k → k ≤ 64 → (trailing_zeros w64 w < k)
    × (has_bit w (trailing_zeros w64 w) ≡ true)
    × ((i : ℕ) → i < trailing_zeros w64 w → has_bit w i ≡ false)
lowest_one w k some small few =
    let most : 2 ^ k ≤ 2 ^ 64 = pow_mono few in
    let t = bit_at-trailing_zeros w64 w some (omega arith) in (
      elim (cases_lt (trailing_zeros w64 w) k) [
        | inl l ↦ l
        | inr past ↦ absurd (omega (arith, t.1, bit_at_above w k (trailing_zeros w64 w) small past))
      ],
      ap (λ x. eqb x 1) t.1,
      λ i l. ap (λ x. eqb x 1) (t.2 i l),
    )

-- the lowest set digit of a word that shows bits from index a on, if it is in the window
pub IsNext-word : (v : Bool) (b : List ℕ) (o n a k w : ℕ) → Shows v b o a k w
    → 0 < w → w < 2 ^ k → k ≤ 64 → a + trailing_zeros w64 w < n
    → IsNext (hits v (bits b o n)) a (Some (a + trailing_zeros w64 w))
IsNext-word v b o n a k w shows some small few within =
    let low = lowest_one w k some small few in (
      omega arith,
      omega (arith, length-hits v (bits b o n), length-bits b o n),
      at-hits v b o n (a + trailing_zeros w64 w) within
          ∙ sym (shows (trailing_zeros w64 w) low.0) ∙ low.1,
      off-digits v b o n a (trailing_zeros w64 w) w (λ j l. shows j (omega (arith, low.0))) low.2,
    )

-- the same, if it is after the window
pub IsNext-word_past : (v : Bool) (b : List ℕ) (o n a k w : ℕ) → Shows v b o a k w
    → 0 < w → w < 2 ^ k → k ≤ 64 → n ≤ a + trailing_zeros w64 w
    → IsNext (hits v (bits b o n)) a None
IsNext-word_past v b o n a k w shows some small few past =
    let low = lowest_one w k some small few in
    IsNext_none v b o n a (a + trailing_zeros w64 w) past (off-digits v b o n a
    (trailing_zeros w64 w) w (λ j l. shows j (omega (arith, low.0))) low.2)

-- bits shown by a word that is 0
pub off-zero : (v : Bool) (b : List ℕ) (o n a k w : ℕ) → Shows v b o a k w → w ≡ 0
    → (i : ℕ) → a ≤ i → i < a + k → at (hits v (bits b o n)) i ≡ false
off-zero v b o n a k w shows e =
    off-digits v b o n a k w shows (λ i l. ap (λ x. has_bit x i) e ∙ digits-clear i)

-- ---- whether there is one
-- none is true
count_none : (l : List Bool) → ((i : ℕ) → at l i ≡ false) → count l ≡ 0
count_none [] off = refl
count_none (true ∷ l) off = absurd (let e = off 0 in cc)
count_none (false ∷ l) off = omega (arith, count-cons false l, count_none l (λ i. off (suc i)))

-- one bit of a window is v
pub any_at : (v : Bool) (b : List ℕ) (o n i : ℕ)
    → i < n → hit v (bit_of b (o + i)) ≡ true → 0 < count (hits v (bits b o n))
any_at v b o n i l on = omega (
  arith,
  count-take-lt (hits v (bits b o n)) i
      (omega (arith, length-hits v (bits b o n), length-bits b o n)) (at-hits v b o n i l ∙ on),
)

-- no bit of a window is v
pub any_none : (v : Bool) (b : List ℕ) (o n : ℕ)
    → ((i : ℕ) → i < n → hit v (bit_of b (o + i)) ≡ false) → count (hits v (bits b o n)) ≡ 0
any_none v b o n off = count_none (hits v (bits b o n)) (λ i. elim (cases_lt i n) [
  | inl l ↦ at-hits v b o n i l ∙ off i l
  | inr past ↦ at-hits_past v b o n i past
])

-- whether any bit is v, by a word that shows all bits of a window
pub any_shown : (v : Bool) (b : List ℕ) (o n w : ℕ) → Shows v b o 0 n w → w < 2 ^ n → n ≤ 64
    → (0 < w) ↔ (0 < count (hits v (bits b o n)))
any_shown v b o n w shows small few =
    let read : (i : ℕ) → i < n → has_bit w i ≡ hit v (bit_of b (o + i)) =
    λ i l. shows i l ∙ ap (λ j. hit v (bit_of b (o + j))) (zero-add i) in (
      λ some. let low = lowest_one w n some small few in
          any_at v b o n (trailing_zeros w64 w) low.0
          (sym (read (trailing_zeros w64 w) low.0) ∙ low.1),
      λ some. elim (cases_lt 0 w) [
        | inl l ↦ l
        | inr z ↦ let none : w ≡ 0 = omega arith in
            absurd (omega (
              arith,
              some,
              any_none v b o n
                  (λ i l. sym (read i l) ∙ ap (λ x. has_bit x i) none ∙ digits-clear i),
            ))
      ],
    )

-- the same, by the word before the end of the window
pub any_before : (v : Bool) (b : List ℕ) (o n t w : ℕ)
    → ShowsBefore v b (o + n) t w → w < 2 ^ 64 → n + t ≡ 64
    → (0 < w) ↔ (0 < count (hits v (bits b o n)))
any_before v b o n t w shows small all =
    let read : (i : ℕ) → i < n → has_bit w (t + i) ≡ hit v (bit_of b (o + i)) =
    λ i l. let p : 64 + i - n ≡ t + i = omega arith in
    ap (has_bit w) (sym p) ∙ shown_before v b o n t w i shows l (omega arith) in (
      λ some. let low = lowest_one w 64 some small (omega arith) in
          let j : ℕ = trailing_zeros w64 w in
          elim (cases_lt j t) [
            | inl below ↦ let off = shows.clear j below in let on = low.1 in absurd cc
            | inr from ↦ let p : t + (j - t) ≡ j = omega arith in
                any_at v b o n (j - t) (omega (arith, low.0))
                (sym (read (j - t) (omega (arith, low.0))) ∙ ap (has_bit w) p ∙ low.1)
          ],
      λ some. elim (cases_lt 0 w) [
        | inl l ↦ l
        | inr z ↦ let none : w ≡ 0 = omega arith in
            absurd (omega (
              arith,
              some,
              any_none v b o n
                  (λ i l. sym (read i l) ∙ ap (λ x. has_bit x (t + i)) none ∙ digits-clear (t + i)),
            ))
      ],
    )

-- the next true value from the front on exists if any value is true
pub next_some : (l : List Bool) (r : Option ℕ) → IsNext l 0 r → IsTrue (is_some r) ↔ (0 < count l)
next_some l None n = (
  λ t. absurd cc,
  λ h. absurd (omega (arith, count_none l (λ i. n i (omega arith)))),
)
next_some l (Some p) n = (λ t. omega (arith, count-take-lt l p n.1 n.2), λ h. refl)

-- the next false value from the front on doesn't exist if all values are true
pub next_none : (l : List Bool) (n : ℕ) (r : Option ℕ) (t : Bool) → length l ≡ n
    → IsNext (complement l) 0 r → is_some r ≡ not t → IsTrue t ↔ (count l ≡ n)
next_none l n None true e m is = (
  λ _. omega (arith, count-complement l, count_none (complement l) (λ i. m i (omega arith))),
  λ _. refl,
)
next_none l n None false e m is = absurd cc
next_none l n (Some p) true e m is = absurd cc
next_none l n (Some p) false e m is = (
  λ t. absurd cc,
  λ h. absurd (omega (arith, count-complement l, count-take-lt (complement l) p m.1 m.2)),
)

-- a number that is 0 exactly if another one is
pub zero_if : (x y : ℕ) → ((0 < x) ↔ (0 < y)) → (x ≡ 0) ↔ (y ≡ 0)
zero_if x y same = (
  λ e. elim (cases_lt 0 y) [
    | inl some ↦ absurd (omega (arith, e, same.1 some))
    | inr none ↦ omega arith
  ],
  λ e. elim (cases_lt 0 x) [
    | inl some ↦ absurd (omega (arith, e, same.0 some))
    | inr none ↦ omega arith
  ],
)

-- if r is the test of n for 0, its negation is the test for more than 0
pub some_if : (r : Bool) (n : ℕ) → (IsTrue r ↔ (n ≡ 0)) → IsTrue (not r) ↔ (0 < n)
some_if true n is = (λ t. absurd cc, λ some. absurd (omega (arith, some, is.0 refl)))
some_if false n is = (
  λ _. elim (cases_lt 0 n) [
    | inl some ↦ some
    | inr none ↦ let t = is.1 (omega arith) in absurd cc
  ],
  λ _. refl,
)
