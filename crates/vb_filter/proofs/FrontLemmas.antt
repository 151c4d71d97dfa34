-- The values that the words of a mask select, written to the front of a list.
use Rattle.std.proofs.Common.{◌≡◌, ℕ, ◌+◌, ◌-◌, ◌*◌, ◌^◌, ◌<◌, ◌≤◌, Bool, List, ◌++◌}
use Rattle.std.proofs.Common.{length, take, drop, min, refl, sym, ap, subst, ◌∙◌, arith}
use Rattle.std.specs.Prelude.{count_ones, slice_range}
use Rattle.std.proofs.lemmas.List.{take_all, length-take, length-drop}
use Rattle.vb_bits.specs.Bits.{count}
use Rattle.vb_bits.specs.Digits.{digits}
use Rattle.vb_bits.specs.Kept.{kept_by}
use Rattle.vb_bits.proofs.BitsLemmas.{count-le}
use Rattle.vb_filter.specs.Gathered.{PutsAt}
use Rattle.vb_filter.proofs.FilteredBits.{WordKept, same_fronts, word-kept_by, ones-of}
use Rattle.vb_filter.proofs.GatherLemmas.{puts-add, puts_none, puts_front}
use Rattle.vb_walk.proofs.WordOnes.{length-kept_by_any}

-- the values that the first t words select are in front, and number len
pub record FrontKept {T : Type 0} (mask : List Bool) (values : List T) (t len : ℕ)
    (old new : List T) : Type 0 where
  pub number : len ≡ count (take (64 * t) mask)
  pub put : PutsAt 0 (kept_by (take (64 * t) mask) (take (64 * t) values)) old new

-- no word
pub front_none : {T : Type 0} (mask : List Bool) (values old : List T)
    → FrontKept mask values 0 0 old old
front_none mask values old = record { number = refl; put = puts_none 0 old }

module _ {T : Type 0} {mask : List Bool} {values old mid : List T} {t len : ℕ}
    (so_far : FrontKept mask values t len old mid) (same : length values ≡ length mask) where
  -- all words
  pub front_all : length mask ≤ 64 * t → mid ≡ kept_by mask values ++ drop len old
  front_all end =
      let all_mask = take_all (64 * t) mask end in
      let all_values = take_all (64 * t) values (omega (arith, same)) in
      let all : kept_by (take (64 * t) mask) (take (64 * t) values) ≡ kept_by mask values =
      ap (λ l. kept_by l (take (64 * t) values)) all_mask ∙ ap (kept_by mask) all_values in
      puts_front (kept_by mask values) old mid len
      (so_far.number ∙ ap count all_mask ∙ sym (length-kept_by_any mask values (sym same)))
      (subst (λ l. PutsAt 0 l old mid) all so_far.put)

  -- the next word, n bits of the mask; the mask has `all` bits
  module _ (n keep all : ℕ) (size : n ≡ min (all - 64 * t) 64) (len_is : all ≡ length mask)
      (clear : keep < 2 ^ n) (of_mask : digits keep 0 n ≡ slice_range mask (64 * t) (64 * t + n))
    where
      word : WordKept mask values t n
      word = word-kept_by mask values t n same (size ∙ ap (λ k. min (k - 64 * t) 64) len_is)

      ones : count (slice_range mask (64 * t) (64 * t + n)) ≡ count_ones keep
      ones = ones-of mask keep (64 * t) n clear of_mask

      -- with its values, no more are in front than the mask selects
      pub front_room : len + count_ones keep ≤ count mask
      front_room = omega (arith, so_far.number, ones, word.room)

      -- so their number is at most the length of the mask
      pub front_fits : len + count_ones keep ≤ all
      front_fits = omega (arith, front_room, count-le mask, len_is)

      abbrev chunk : List T
      chunk = slice_range values (64 * t) (64 * t + n)

      -- the values that it selects
      added : kept_by (digits keep 0 (length chunk)) chunk
          ≡ kept_by (slice_range mask (64 * t) (64 * t + n)) chunk
      added =
          let long : length chunk ≡ n =
          simp (length-take, length-drop) (omega (arith, size, len_is, same)) in
          ap (λ k. kept_by (digits keep 0 k) chunk) long ∙ ap (λ l. kept_by l chunk) of_mask

      -- they are written after those in front
      pub front_more : {new : List T} → (x : ℕ) → x ≡ count_ones keep
          → PutsAt len (kept_by (digits keep 0 (length chunk)) chunk) mid new
          → FrontKept mask values (t + 1) (len + x) old new
      front_more {new} x many put =
          let front = kept_by (take (64 * t) mask) (take (64 * t) values) in
          let place : len ≡ 0 + length front = omega (
            arith,
            so_far.number,
            length-kept_by_any (take (64 * t) mask) (take (64 * t) values)
                (same_fronts mask values (64 * t) same),
          ) in
          let more = subst (λ l. PutsAt (0 + length front) l mid new) added
          (subst (λ k. PutsAt k (kept_by (digits keep 0 (length chunk)) chunk) mid new) place put)
          in
          record {
            number = ap (λ k. k + x) so_far.number
                ∙ ap (λ k. count (take (64 * t) mask) + k) (many ∙ sym ones) ∙ word.number;
            put = subst (λ l. PutsAt 0 l old new) (sym word.front)
                (puts-add 0 front _ old mid new so_far.put more);
          }

-- the last word, of n bits, after all whole words
module _ {T : Type 0} {mask : List Bool} {values old mid : List T} {t len : ℕ} (whole : ℕ)
    (so_far : FrontKept mask values t len old mid) (end : t ≡ whole)
    (same : length values ≡ length mask) (n keep : ℕ) (size : n ≡ length mask - 64 * whole)
    (few : n < 64) (clear : keep < 2 ^ n)
    (of_mask : digits keep 0 n ≡ slice_range mask (64 * whole) (64 * whole + n)) where
  all_whole : FrontKept mask values whole len old mid
  all_whole = subst (λ k. FrontKept mask values k len old mid) end so_far

  -- its values fit
  pub last_room : len + count_ones keep ≤ count mask
  last_room =
      front_room all_whole same n keep (length mask) (omega (arith, size, few)) refl clear of_mask

  -- and so does their number
  pub last_fits : len + count_ones keep ≤ length mask
  last_fits =
      front_fits all_whole same n keep (length mask) (omega (arith, size, few)) refl clear of_mask

  -- all selected values are in front, and this is their number
  pub front_last : {new : List T} → (x : ℕ) → x ≡ count_ones keep
      → PutsAt len (kept_by (digits keep 0 (length (slice_range values (64 * whole) (64 * whole
      + n)))) (slice_range values (64 * whole) (64 * whole + n))) mid new
      → (len + x ≡ count mask) × (new ≡ kept_by mask values ++ drop (len + x) old)
  front_last x many put =
      let more = front_more all_whole same n keep (length mask) (omega (arith, size, few)) refl
      clear of_mask x many put in
      let done : length mask ≤ 64 * (whole + 1) = omega (arith, size, few) in (
        more.number ∙ ap count (take_all (64 * (whole + 1)) mask done),
        front_all more same done,
      )
