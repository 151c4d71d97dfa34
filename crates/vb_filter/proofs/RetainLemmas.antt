-- Values that words of a mask select, moved to the front of their own list.
use Rattle.std.proofs.Common.{◌≡◌, ℕ, ◌+◌, ◌-◌, ◌*◌, ◌^◌, ◌<◌, ◌≤◌, ◌++◌, Bool, List, length}
use Rattle.std.proofs.Common.{inl, inr, map, get_or, take, drop, refl, sym, ap, subst, ◌∙◌, arith}
use Rattle.std.specs.Int.{trailing_zeros, w64}
use Rattle.std.specs.Int.Bits.{bit_and}
use Rattle.std.specs.List.{copy_within}
use Rattle.std.specs.Prelude.{count_ones, slice_range}
use Rattle.std.proofs.lemmas.Bool.{cases_lt}
use Rattle.std.proofs.lemmas.List.{length-take, length-drop, get_or-take, get_or-drop}
use Rattle.std.proofs.lemmas.List.Edits.{take-paste, drop-paste}
use Rattle.std.proofs.lemmas.Nat.{and_le_l}
use Rattle.std.proofs.lemmas.Nat.Bits.{bit_at-trailing_zeros}
use Rattle.vb_bits.specs.Digits.{digits}
use Rattle.vb_bits.specs.Kept.{kept_by}
use Rattle.vb_bits.proofs.BitsLemmas.{count-le}
use Rattle.vb_bits.proofs.DigitsLemmas.{length-digits, count-digits_below}
use Rattle.vb_walk.proofs.OnesLemmas.{lowest_off}
use Rattle.vb_filter.specs.Gathered.{PutsAt}
use Rattle.vb_filter.proofs.FilteredBits.{same_fronts, front-add}
use Rattle.vb_filter.proofs.FrontLemmas.{FrontKept}
use Rattle.vb_filter.proofs.GatherLemmas.{puts_ones}
use Rattle.vb_walk.proofs.WordOnes.{ones, length-kept_by_any, kept_all, word_fits}
use Rattle.vb_filter.proofs.ElementsLemmas.{drop_further}

-- a value of the n from index start on is still there behind all that was written
pub unread_value : {T : Type 0} (old new : List T) (end start n i : ℕ) (d : T)
    → drop end new ≡ drop end old → end ≤ start + i → i < n
    → get_or new (start + i) d ≡ get_or (slice_range old start (start + n)) i d
unread_value old new end start n i d same behind inside =
    let at : end + (start + i - end) ≡ start + i = omega arith in
    ap (λ k. get_or new k d) (sym at) ∙ sym (get_or-drop end new (start + i - end) d)
    ∙ ap (λ l. get_or l (start + i - end) d) same ∙ get_or-drop end old (start + i - end) d
    ∙ ap (λ k. get_or old k d) at ∙ sym (get_or-drop start old i d)
    ∙ sym (get_or-take (start + n - start) (drop start old) i d (omega arith))

-- the next one is above the lowest one
pub next_above : (n w : ℕ) → 0 < w → w < 2 ^ n → n ≤ 64 → 0 < bit_and w (w - 1)
    → trailing_zeros w64 w < trailing_zeros w64 (bit_and w (w - 1))
next_above n w some clear few more =
    let fits : w < 2 ^ 64 = word_fits n w some clear few in
    let low : ℕ = trailing_zeros w64 w in
    let rest : ℕ = bit_and w (w - 1) in
    let z = bit_at-trailing_zeros w64 w some fits in
    let off = lowest_off w low z.1 z.2 in
    let next = bit_at-trailing_zeros w64 rest more (omega (arith, and_le_l w (w - 1))) in
    elim (cases_lt low (trailing_zeros w64 rest)) [
      | inl above ↦ above
      | inr below ↦ absurd (omega (arith, off.0 (trailing_zeros w64 rest) below, next.1))
    ]

-- n values that are moved as a block
pub puts_block : {T : Type 0} (xs : List T) (len start n keep : ℕ) → len ≤ start
    → start + n ≤ length xs → keep < 2 ^ n → count_ones keep ≡ n
    → PutsAt len (kept_by (digits keep 0 n) (slice_range xs start (start + n))) xs
    (copy_within xs start (start + n) len)
puts_block xs len start n keep before inside clear full =
    let m : ℕ = start + n - start in
    let items = slice_range xs start (start + n) in
    let long : length items ≡ n = simp (length-take, length-drop) (omega (arith, inside)) in
    let all : kept_by (digits keep 0 n) items ≡ items = kept_all (digits keep 0 n) items
    (length-digits keep 0 n ∙ sym long)
    (count-digits_below keep n clear ∙ full ∙ sym (length-digits keep 0 n)) in
    let end : len + length items ≡ len + m = omega (arith, long) in
    let rest : m ≤ length (drop start xs) = omega (arith, length-drop start xs, inside) in
    let new = copy_within xs start (start + n) len in
    subst (λ l. PutsAt len l xs new) (sym all) (record {
      front = ap (λ k. take k new) end
          ∙ take-paste xs len (drop start xs) m (omega (arith, before, inside)) rest;
      behind = ap (λ k. drop k new) end
          ∙ drop-paste xs len (drop start xs) m (omega (arith, before, inside)) rest
          ∙ ap (λ k. drop k xs) (sym end);
    })

-- n values that are at their new indices already
pub puts_same : {T : Type 0} (xs : List T) (len start n keep : ℕ) → len ≡ start
    → start + n ≤ length xs → keep < 2 ^ n → count_ones keep ≡ n
    → PutsAt len (kept_by (digits keep 0 n) (slice_range xs start (start + n))) xs xs
puts_same xs len start n keep here inside clear full =
    let items = slice_range xs start (start + n) in
    let long : length items ≡ n = simp (length-take, length-drop) (omega (arith, inside)) in
    let all : kept_by (digits keep 0 n) items ≡ items = kept_all (digits keep 0 n) items
    (length-digits keep 0 n ∙ sym long)
    (count-digits_below keep n clear ∙ full ∙ sym (length-digits keep 0 n)) in
    let end : len + length items ≡ start + n = omega (arith, long, here) in
    subst (λ l. PutsAt len l xs xs) (sym all) (record {
      front = ap (λ k. take k xs) end ∙ front-add xs start n
          ∙ ap (λ k. take k xs ++ items) (sym here);
      behind = refl;
    })

-- the values at the ones of a word of n values, written after others
pub puts_ones_of : {T : Type 0} (xs old new : List T) (w s end n : ℕ) → length xs ≡ n
    → length new ≡ length old → w < 2 ^ n → s + count_ones w ≤ length old
    → end ≡ s + count_ones w
    → ((d : T) → take end new ≡ take s old ++ map (λ i. get_or xs i d) (ones n w))
    → drop end new ≡ drop end old → PutsAt s (kept_by (digits w 0 n) xs) old new
puts_ones_of {T} xs old new w s end n long same clear room place front behind =
    subst (λ k. w < 2 ^ k
    → ((d : T) → take end new ≡ take s old ++ map (λ i. get_or xs i d) (ones k w))
    → PutsAt s (kept_by (digits w 0 k) xs) old new) long
    (λ fits here. puts_ones xs old new w s end same fits room place here behind) clear front

module _ {T : Type 0} {mask : List Bool} {old mid : List T} {t len : ℕ}
    (so_far : FrontKept mask old t len old mid) (same : length old ≡ length mask) where
  abbrev front : List T
  front = kept_by (take (64 * t) mask) (take (64 * t) old)

  -- their number is at most that of the bits of those words
  few : length front ≤ 64 * t
  few = omega (
    arith,
    length-kept_by_any (take (64 * t) mask) (take (64 * t) old)
        (same_fronts mask old (64 * t) same),
    count-le (take (64 * t) mask),
    length-take (64 * t) mask,
  )

  -- so no value is written behind where it was
  pub front_behind : len ≤ 64 * t
  front_behind = omega (
    arith,
    so_far.number,
    count-le (take (64 * t) mask),
    length-take (64 * t) mask,
  )

  -- the values of the words that are left are unchanged
  unread : drop (64 * t) mid ≡ drop (64 * t) old
  unread = drop_further mid old (0 + length front) (64 * t) (omega (arith, few)) so_far.put.behind

  -- so their values that are written are those of the first list
  pub put_unread : {new : List T} (n keep : ℕ) → 64 * t + n ≤ length mask
      → PutsAt len (kept_by (digits keep 0 n) (slice_range mid (64 * t) (64 * t + n))) mid new
      → PutsAt len (kept_by (digits keep 0 (length (slice_range old (64 * t) (64 * t + n))))
      (slice_range old (64 * t) (64 * t + n))) mid new
  put_unread {new} n keep inside put =
      let chunk = slice_range old (64 * t) (64 * t + n) in
      let there : slice_range mid (64 * t) (64 * t + n) ≡ chunk =
      ap (take (64 * t + n - 64 * t)) unread in
      let long : length chunk ≡ n = simp (length-take, length-drop) (omega (arith, inside, same)) in
      subst (λ k. PutsAt len (kept_by (digits keep 0 k) chunk) mid new) (sym long)
      (subst (λ l. PutsAt len (kept_by (digits keep 0 n) l) mid new) there put)
