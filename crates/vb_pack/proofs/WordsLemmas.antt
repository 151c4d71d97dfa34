-- Digits of words.
use Rattle.std.proofs.Common.{◌≡◌, ◌≢◌, inl, inr, ℕ, ◌+◌, ◌-◌, ◌*◌, ◌/◌, ◌%◌, ◌^◌, ◌<◌, ◌≤◌, ◌⊎◌}
use Rattle.std.proofs.Common.{Bool, false, List, [], ◌++◌, length, get_or, set, replicate, eqb}
use Rattle.std.proofs.Common.{refl, sym, ap, subst, ◌∙◌, arith, zero-add, length-set}
use Rattle.std.proofs.Common.{get_or-set_same, get_or-set_other}
use Rattle.std.proofs.lemmas.Bool.{cases_lt}
use Rattle.std.proofs.lemmas.List.{same_lists, length-append, length-replicate, get_or-replicate}
use Rattle.std.proofs.lemmas.List.{get_or_append_left, get_or-append_right}
use Rattle.std.proofs.lemmas.List.FromFn.{length-map-range_with_len, get_or-map-range_with_len}
use Rattle.std.proofs.lemmas.Nat.Bits.{bit_at_above}
use Rattle.vb_bits.specs.Digits.{has_bit, digits}
use Rattle.vb_bits.proofs.DigitsLemmas.{length-digits, at-digits, digits-add}
use Rattle.vb_bits.proofs.WrittenLemmas.{IsWindowed, Written, Written_by_values, Written-at}
use Rattle.vb_bits.proofs.WrittenLemmas.{Written-more, Written-ended}
use Rattle.vb_pack.specs.WordBits.{word_bit, word_bits, WritesWords}

-- n digits have length n
pub length-word_bits : (w : List ℕ) (o n : ℕ) → length (word_bits w o n) ≡ n
unfolding word_bits
length-word_bits w o n = length-map-range_with_len (word_bit w) o n

-- one of the digits
pub at-word_bits : (w : List ℕ) (o n i : ℕ) (d : Bool)
    → i < n → get_or (word_bits w o n) i d ≡ word_bit w (o + i)
unfolding word_bits
at-word_bits w o n i d h = get_or-map-range_with_len (word_bit w) o n i (o + i) d h refl

-- no digits
pub word_bits_none : (w : List ℕ) (o : ℕ) → word_bits w o 0 ≡ []
unfolding word_bits
word_bits_none w o = refl

-- ---- digits that are 0
-- a digit above those of a number
pub has_bit_above : (w n i : ℕ) → w < 2 ^ n → n ≤ i → has_bit w i ≡ false
has_bit_above w n i small h = ap (λ x. eqb x 1) (bit_at_above w n i small h)

-- the digits of a number, and the zeros above them
pub digits_above : (w n k : ℕ)
    → w < 2 ^ n → n ≤ k → digits w 0 k ≡ digits w 0 n ++ replicate (k - n) false
digits_above w n k small h =
    let whole : k ≡ n + (k - n) = omega arith in
    ap (digits w 0) whole ∙ digits-add w 0 n (k - n) ∙ ap (λ l. digits w 0 n ++ l)
    (same_lists _ _ (length-digits w (0 + n) (k - n) ∙ sym (length-replicate (k - n) false))
    (λ i d l.
    let inside : i < k - n = omega (arith, length-digits w (0 + n) (k - n)) in
    at-digits w (0 + n) (k - n) i d inside ∙ has_bit_above w n (0 + n + i) small (omega arith)
    ∙ sym (get_or-replicate (k - n) i false d inside)))

-- ---- writes
-- the digits of words in order
word_bits_windowed : IsWindowed word_bit word_bits
word_bits_windowed = record { len = length-word_bits; at = at-word_bits }

-- a write, with and without the number of words
Written_of : {b c : List ℕ} {o : ℕ} {m : List Bool} → WritesWords b c o m
    → Written word_bit word_bits b c o m
Written_of w = record { window_is = w.window; others = w.others }

WritesWords_of : {b c : List ℕ} {o : ℕ} {m : List Bool} → length c ≡ length b
    → Written word_bit word_bits b c o m → WritesWords b c o m
WritesWords_of same w = record { same_len = same; window = w.window_is; others = w.others }

-- a write, given digit by digit
pub WritesWords_by_digits : (b c : List ℕ) (o : ℕ) (m : List Bool) → length c ≡ length b
    → ((i : ℕ) (d : Bool) → i < length m → word_bit c (o + i) ≡ get_or m i d)
    → ((i : ℕ) → (i < o) ⊎ (o + length m ≤ i) → word_bit c i ≡ word_bit b i) → WritesWords b c o m
WritesWords_by_digits b c o m same inside others =
    WritesWords_of same
    (Written_by_values word_bit word_bits word_bits_windowed b c o m inside others)

-- a write of nothing
pub WritesWords_none : (b : List ℕ) (o : ℕ) (m : List Bool) → length m ≡ 0 → WritesWords b b o m
WritesWords_none b o m none =
    WritesWords_by_digits b b o m refl (λ i d h. absurd (omega arith)) (λ i h. refl)

-- one word
pub WritesWords_set : (b : List ℕ) (k w : ℕ) → k < length b
    → WritesWords b (set b k w) (64 * k) (digits w 0 64)
WritesWords_set b k w h =
    let long : length (digits w 0 64) ≡ 64 = length-digits w 0 64 in
    WritesWords_by_digits b (set b k w) (64 * k) (digits w 0 64) (length-set b k w)
    (λ i d l.
    let inside : i < 64 = omega arith in
    let word : (64 * k + i) / 64 ≡ k = omega arith in
    let place : (64 * k + i) % 64 ≡ i = omega arith in
    ap (λ j. has_bit (get_or (set b k w) j 0) ((64 * k + i) % 64)) word
    ∙ ap (has_bit (get_or (set b k w) k 0)) place
    ∙ ap (λ x. has_bit x i) (get_or-set_same b k w 0 h)
    ∙ sym (at-digits w 0 64 i d inside ∙ ap (has_bit w) (zero-add i)))
    (λ i l.
    let other : i / 64 ≢ k = elim l [ inl low ↦ omega arith | inr high ↦ omega arith ] in
    ap (λ x. has_bit x (i % 64)) (get_or-set_other b k (i / 64) w 0 other))

-- a window, and the list written after it
pub WritesWords-more : (b c d : List ℕ) (o p m n k : ℕ) (l : List Bool) → p ≡ o + m → length l ≡ n
    → k ≡ m + n → WritesWords b c o (word_bits c o m) → WritesWords c d p l
    → (word_bits d o k ≡ word_bits c o m ++ l) × WritesWords b d o (word_bits d o k)
WritesWords-more b c d o p m n k l from long whole first second =
    let more =
    Written-more word_bit word_bits word_bits_windowed b c d o p m k l from (omega arith)
    (Written_of first) (Written_of second) in
    (more.0, WritesWords_of (second.same_len ∙ first.same_len) more.1)

-- a write whose last digits are false, over digits that were false
pub WritesWords-less : (b c : List ℕ) (o k : ℕ) (l : List Bool)
    → WritesWords b c o (l ++ replicate k false)
    → ((i : ℕ) → o + length l ≤ i → word_bit b i ≡ false) → WritesWords b c o l
WritesWords-less b c o k l written clear =
    let filled : List Bool = l ++ replicate k false in
    let at = Written-at word_bit word_bits word_bits_windowed b c o in
    let is = Written_of written in
    let whole : length filled ≡ length l + k =
    length-append l (replicate k false) ∙ ap (λ n. length l + n) (length-replicate k false) in
    WritesWords_by_digits b c o l written.same_len
    (λ i d h. at i filled d is (omega arith) ∙ get_or_append_left l (replicate k false) d i h)
    (λ i h. elim h [
      | inl before ↦ is.others i (inl before)
      | inr behind ↦ elim (cases_lt i (o + length l + k)) [
        | inl inside ↦
            let place : o + (i - o) ≡ i = omega arith in
            let past : i - o - length l < k = omega arith in
            ap (word_bit c) (sym place) ∙ at (i - o) filled false is (omega arith)
            ∙ get_or-append_right l (replicate k false) (length l) (i - o) false refl (omega arith)
            ∙ get_or-replicate k (i - o - length l) false false past ∙ sym (clear i behind)
        | inr after ↦ is.others i (inr (omega arith))
      ]
    ])

-- a window, and after it k digits of a number, which are 0 from digit r on
pub WritesWords-ended : (b c d : List ℕ) (o p m r n k w : ℕ) → p ≡ o + m → n ≡ m + r → r ≤ k
    → w < 2 ^ r → WritesWords b c o (word_bits c o m) → WritesWords c d p (digits w 0 k)
    → (word_bits d o n ≡ word_bits c o m ++ digits w 0 r)
    × WritesWords b d o (word_bits d o n ++ replicate (k - r) false)
WritesWords-ended b c d o p m r n k w from whole few small first second =
    let part : List Bool = digits w 0 r in let zeros : List Bool = replicate (k - r) false in
    let last : WritesWords c d p (part ++ zeros) =
    subst (WritesWords c d p) (digits_above w r k small few) second in
    let ended =
    Written-ended word_bit word_bits word_bits_windowed b c d o p m n part zeros from
    (omega (arith, length-digits w 0 r)) (Written_of first) (Written_of last) in
    (ended.0, WritesWords_of (second.same_len ∙ first.same_len) ended.1)
