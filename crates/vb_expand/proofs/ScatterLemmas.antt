-- Values written over the items that a mask selects.
use Rattle.std.proofs.Common.{◌≡◌, ℕ, suc, ◌+◌, ◌-◌, ◌*◌, ◌^◌, ◌<◌, ◌≤◌, Bool, true, false, List}
use Rattle.std.proofs.Common.{[], ◌∷◌, ◌++◌, length, map, take, drop, set, refl, sym, ap, subst}
use Rattle.std.proofs.Common.{◌∙◌, arith}
use Rattle.std.specs.Prelude.{count_ones, slice_range}
use Rattle.std.proofs.Math.Seq.{take-add, take-append_seam}
use Rattle.std.proofs.lemmas.List.{append-nil, drop-drop, drop_all, drop_at, length-take-le}
use Rattle.std.proofs.lemmas.List.{take-append-drop, take_all, length-take, length-drop}
use Rattle.std.proofs.lemmas.Slice.{take-put_mid, drop-put_mid}
use borrow.Rule.Slice.PartMut.{put_mid}
use Rattle.vb_bits.specs.Bits.{complement, count, places}
use Rattle.vb_bits.specs.Digits.{digits}
use Rattle.vb_bits.specs.Kept.{kept_by}
use Rattle.vb_bits.proofs.BitsLemmas.{count-cons, count-append, count-le, count-take-le}
use Rattle.vb_bits.proofs.DigitsLemmas.{count-digits_below}
use Rattle.vb_bits.proofs.PlacesLemmas.{places_none, places_cons}
use Rattle.vb_expand.specs.Scatter.{scattered_by}

-- the count of a list, by its first value
one_more : (l : List Bool) → count (true ∷ l) ≡ suc (count l)
one_more l = omega (arith, count-cons true l)

none_more : (l : List Bool) → count (false ∷ l) ≡ count l
none_more l = omega (arith, count-cons false l)

-- a front, and n items more
front-add : {T : Type 0} (xs : List T) (a n : ℕ)
    → take (a + n) xs ≡ take a xs ++ slice_range xs a (a + n)
front-add xs a n =
    let len : a + n - a ≡ n = omega arith in
    take-add a n xs ∙ ap (λ k. take a xs ++ take k (drop a xs)) (sym len)

-- ---- item by item
-- the items, with a value written to each of these indices
abbrev pub put_at : {T : Type 0} → List ℕ → List T → List T → List T
put_at [] values items = items
put_at (p ∷ ps) [] items = items
put_at (p ∷ ps) (v ∷ values) items = put_at ps values (set items p v)

-- indices that are greater by one
put_at-later : {T : Type 0} (ps : List ℕ) (values items : List T) (x : T)
    → put_at (map (λ i. 1 + i) ps) values (x ∷ items) ≡ x ∷ put_at ps values items
put_at-later [] values items x = refl
put_at-later (p ∷ ps) [] items x = refl
put_at-later (p ∷ ps) (v ∷ values) items x =
    let later : 1 + p ≡ suc p = omega arith in
    ap (λ k. put_at (map (λ i. 1 + i) ps) values (set (x ∷ items) k v)) later
    ∙ put_at-later ps values (set items p v) x

-- the indices of all set bits of a mask
pub put_at-places : {T : Type 0} (mask : List Bool) (values items : List T)
    → length items ≡ length mask
    → put_at (places mask) values items ≡ scattered_by mask values items
put_at-places [] values items same = ap (λ ps. put_at ps values items) places_none
put_at-places (b ∷ mask) values [] same = absurd (omega arith)
put_at-places (false ∷ mask) values (x ∷ items) same =
    ap (λ ps. put_at ps values (x ∷ items)) (places_cons false mask)
    ∙ put_at-later (places mask) values items x
    ∙ ap (λ l. x ∷ l) (put_at-places mask values items (omega arith))
put_at-places (true ∷ mask) [] (x ∷ items) same =
    ap (λ ps. put_at ps [] (x ∷ items)) (places_cons true mask)
put_at-places (true ∷ mask) (v ∷ values) (x ∷ items) same =
    ap (λ ps. put_at ps (v ∷ values) (x ∷ items)) (places_cons true mask)
    ∙ put_at-later (places mask) values items v
    ∙ ap (λ l. v ∷ l) (put_at-places mask values items (omega arith))

-- ---- lists
-- the number of items is unchanged
pub length-scattered_by : {T : Type 0} (mask : List Bool) (values items : List T)
    → length (scattered_by mask values items) ≡ length items
length-scattered_by [] values items = refl
length-scattered_by (b ∷ mask) values [] = refl
length-scattered_by (false ∷ mask) values (x ∷ items) =
    ap suc (length-scattered_by mask values items)
length-scattered_by (true ∷ mask) [] (x ∷ items) = refl
length-scattered_by (true ∷ mask) (v ∷ values) (x ∷ items) =
    ap suc (length-scattered_by mask values items)

-- by two masks, one after the other
scattered_by-append : {T : Type 0} (k l : List Bool) (values xs ys : List T)
    → length xs ≡ length k → count k ≤ length values → scattered_by (k ++ l) values (xs ++ ys)
    ≡ scattered_by k values xs ++ scattered_by l (drop (count k) values) ys
scattered_by-append [] l values [] ys same enough = refl
scattered_by-append [] l values (x ∷ xs) ys same enough = absurd (omega arith)
scattered_by-append (b ∷ k) l values [] ys same enough = absurd (omega arith)
scattered_by-append (false ∷ k) l values (x ∷ xs) ys same enough =
    rw (none_more k) (ap (λ m. x ∷ m) (scattered_by-append k l values xs ys (omega arith)
    (omega (arith, none_more k))))
scattered_by-append (true ∷ k) l [] (x ∷ xs) ys same enough =
    absurd (omega (arith, one_more k))
scattered_by-append (true ∷ k) l (v ∷ values) (x ∷ xs) ys same enough =
    rw (one_more k) (ap (λ m. v ∷ m) (scattered_by-append k l values xs ys (omega arith)
    (omega (arith, one_more k))))

-- a mask that is true
pub scattered_all : {T : Type 0} (mask : List Bool) (values items : List T)
    → length items ≡ length mask → count mask ≡ length mask → count mask ≤ length values
    → scattered_by mask values items ≡ take (length items) values
scattered_all [] values [] same full enough = refl
scattered_all [] values (x ∷ items) same full enough = absurd (omega arith)
scattered_all (b ∷ mask) values [] same full enough = absurd (omega arith)
scattered_all (false ∷ mask) values (x ∷ items) same full enough =
    absurd (omega (arith, none_more mask, count-le mask))
scattered_all (true ∷ mask) [] (x ∷ items) same full enough =
    absurd (omega (arith, one_more mask))
scattered_all (true ∷ mask) (v ∷ values) (x ∷ items) same full enough =
    ap (λ l. v ∷ l) (scattered_all mask values items (omega arith) (omega (arith, one_more mask))
    (omega (arith, one_more mask)))

-- the mask selects the values
pub kept_by-scattered_by : {T : Type 0} (mask : List Bool) (values items : List T)
    → length items ≡ length mask → count mask ≤ length values
    → kept_by mask (scattered_by mask values items) ≡ take (count mask) values
kept_by-scattered_by [] values [] same enough = refl
kept_by-scattered_by [] values (x ∷ items) same enough = absurd (omega arith)
kept_by-scattered_by (b ∷ mask) values [] same enough = absurd (omega arith)
kept_by-scattered_by (false ∷ mask) values (x ∷ items) same enough =
    rw (none_more mask) (kept_by-scattered_by mask values items (omega arith)
    (omega (arith, none_more mask)))
kept_by-scattered_by (true ∷ mask) [] (x ∷ items) same enough =
    absurd (omega (arith, one_more mask))
kept_by-scattered_by (true ∷ mask) (v ∷ values) (x ∷ items) same enough =
    rw (one_more mask) (ap (λ l. v ∷ l) (kept_by-scattered_by mask values items (omega arith)
    (omega (arith, one_more mask))))

-- all others stay
pub others-scattered_by : {T : Type 0} (mask : List Bool) (values items : List T)
    → kept_by (complement mask) (scattered_by mask values items) ≡ kept_by (complement mask) items
others-scattered_by [] values items = refl
others-scattered_by (b ∷ mask) values [] = refl
others-scattered_by (false ∷ mask) values (x ∷ items) =
    ap (λ l. x ∷ l) (others-scattered_by mask values items)
others-scattered_by (true ∷ mask) [] (x ∷ items) = refl
others-scattered_by (true ∷ mask) (v ∷ values) (x ∷ items) =
    others-scattered_by mask values items

-- ---- a word after the other
-- the values for the first a bits are written over the items, and `taken` is their number
pub record FrontScattered {T : Type 0} (mask : List Bool) (values old new : List T) (a taken : ℕ)
    : Type 0 where
  pub number : taken ≡ count (take a mask)
  pub items : new ≡ scattered_by (take a mask) values (take a old) ++ drop a old

-- with those of the next n bits
module _ {T : Type 0} {mask : List Bool} {values old mid : List T} {a taken : ℕ}
    (so_far : FrontScattered mask values old mid a taken) (same : length old ≡ length mask)
    (enough : count mask ≤ length values) (n : ℕ) (room : a + n ≤ length mask) where
  abbrev front : List T
  front = scattered_by (take a mask) values (take a old)

  size : length front ≡ a
  size =
      length-scattered_by (take a mask) values (take a old)
      ∙ length-take-le a old (omega (arith, same, room))

  -- their number
  counted : count (take (a + n) mask)
      ≡ count (take a mask) + count (slice_range mask a (a + n))
  counted = ap count (front-add mask a n) ∙ count-append (take a mask) (slice_range mask a (a + n))

  -- there are enough
  pub front_enough : taken + count (slice_range mask a (a + n)) ≤ length values
  front_enough = omega (arith, so_far.number, counted, count-take-le (a + n) mask, enough)

  -- and their number fits
  pub front_fits : taken + count (slice_range mask a (a + n)) ≤ length mask
  front_fits =
      omega (arith, so_far.number, counted, count-take-le (a + n) mask, count-le mask)

  before : take a mid ≡ front
  before =
      ap (take a) so_far.items ∙ ap (λ k. take k (front ++ drop a old)) (sym size)
      ∙ take-append_seam front (drop a old)

  behind : drop a mid ≡ drop a old
  behind = ap (drop a) so_far.items ∙ drop_at front (drop a old) a size

  pub front_more : {new : List T} → (part : List T) (added : ℕ)
      → added ≡ count (slice_range mask a (a + n))
      → part ≡ scattered_by (slice_range mask a (a + n)) (drop taken values)
      (slice_range mid a (a + n))
      → take (a + n) new ≡ take a mid ++ part → drop (a + n) new ≡ drop (a + n) mid
      → FrontScattered mask values old new (a + n) (taken + added)
  front_more {new} part added many made first last =
      let chunk = slice_range mask a (a + n) in
      let there : slice_range mid a (a + n) ≡ slice_range old a (a + n) =
      ap (take (a + n - a)) behind in
      let whole : scattered_by (take (a + n) mask) values (take (a + n) old) ≡ front ++ part =
      ap (λ l. scattered_by l values (take (a + n) old)) (front-add mask a n)
      ∙ ap (scattered_by (take a mask ++ chunk) values) (front-add old a n)
      ∙ scattered_by-append (take a mask) chunk values (take a old) (slice_range old a (a + n))
      (length-take-le a old (omega (arith, same, room))
      ∙ sym (length-take-le a mask (omega (arith, room))))
      (omega (arith, count-take-le a mask, enough))
      ∙ ap (λ k. front ++ scattered_by chunk (drop k values) (slice_range old a (a + n)))
      (sym so_far.number)
      ∙ ap (λ l. front ++ scattered_by chunk (drop taken values) l) (sym there)
      ∙ ap (λ l. front ++ l) (sym made) in
      record {
        number = omega (arith, so_far.number, many, counted);
        items = sym (take-append-drop (a + n) new)
            ∙ ap (λ l. l ++ drop (a + n) new) (first ∙ ap (λ l. l ++ part) before ∙ sym whole)
            ∙ ap (λ l. scattered_by (take (a + n) mask) values (take (a + n) old) ++ l)
            (last ∙ sym (drop-drop n a mid) ∙ ap (drop n) behind ∙ drop-drop n a old);
      }

  -- the next n bits as the digits of a word
  module _ (word : ℕ) (clear : word < 2 ^ n)
      (of_mask : digits word 0 n ≡ slice_range mask a (a + n)) where
    ones : count (slice_range mask a (a + n)) ≡ count_ones word
    ones = ap count (sym of_mask) ∙ count-digits_below word n clear

    pub word_enough : taken + count_ones word ≤ length values
    word_enough = omega (arith, front_enough, ones)

    pub word_fits : taken + count_ones word ≤ length mask
    word_fits = omega (arith, front_fits, ones)

    abbrev chunk : List T
    chunk = slice_range mid a (a + n)

    pub front_word : length mid ≡ length old → (part : List T) (added : ℕ)
        → added ≡ count_ones word
        → part ≡ scattered_by (digits word 0 (length chunk)) (drop taken values) chunk
        → FrontScattered mask values old (put_mid a (a + n - a) mid part) (a + n) (taken + added)
    front_word len part added many made =
        let long : length chunk ≡ n =
        simp (length-take, length-drop) (omega (arith, room, same, len)) in
        let whole : length part ≡ n =
        ap length made
        ∙ length-scattered_by (digits word 0 (length chunk)) (drop taken values) chunk ∙ long in
        front_more part added (many ∙ sym ones)
        (made ∙ ap (λ k. scattered_by (digits word 0 k) (drop taken values) chunk) long
        ∙ ap (λ l. scattered_by l (drop taken values) chunk) of_mask)
        (take-put_mid a (a + n - a) mid part (a + n) (ap (λ k. a + k) (sym whole))
        (omega (arith, room, same, len)))
        (drop-put_mid a (a + n - a) mid part (a + n) (omega arith) (omega (arith, room, same, len))
        (whole ∙ omega arith))

-- of all bits
pub front_all : {T : Type 0} {mask : List Bool} {values old new : List T} {a taken : ℕ}
    → FrontScattered mask values old new a taken → length old ≡ length mask → length mask ≤ a
    → (taken ≡ count mask) × (new ≡ scattered_by mask values old)
front_all {T} {mask} {values} {old} {new} {a} {taken} so_far same end =
    let all = take_all a mask end in
    let none : drop a old ≡ [] = drop_all a old (omega (arith, same, end)) in (
      so_far.number ∙ ap count all,
      so_far.items ∙ ap (λ l. scattered_by l values (take a old) ++ drop a old) all
          ∙ ap (λ l. scattered_by mask values l ++ drop a old)
          (take_all a old (omega (arith, same, end)))
          ∙ ap (λ l. scattered_by mask values old ++ l) none
          ∙ append-nil (scattered_by mask values old),
    )

-- the last word, of n bits, once t is the number of the whole words
module _ {T : Type 0} {mask : List Bool} {values old mid : List T} {t taken : ℕ}
    (so_far : FrontScattered mask values old mid (64 * t) taken) (whole : ℕ) (end : t ≡ whole)
    (same : length old ≡ length mask) (enough : count mask ≤ length values) (n : ℕ)
    (size : 64 * whole + n ≡ length mask) (word : ℕ) (clear : word < 2 ^ n)
    (of_mask : digits word 0 n ≡ slice_range mask (64 * whole) (64 * whole + n)) where
  all_whole : FrontScattered mask values old mid (64 * whole) taken
  all_whole = subst (λ k. FrontScattered mask values old mid (64 * k) taken) end so_far

  room : 64 * whole + n ≤ length mask
  room = omega (arith, size)

  pub last_enough : taken + count_ones word ≤ length values
  last_enough = word_enough all_whole same enough n room word clear of_mask

  pub last_fits : taken + count_ones word ≤ length mask
  last_fits = word_fits all_whole same enough n room word clear of_mask

  abbrev last_chunk : List T
  last_chunk = slice_range mid (64 * whole) (64 * whole + n)

  pub front_last : length mid ≡ length old → (part : List T) (added : ℕ)
      → added ≡ count_ones word
      → part ≡ scattered_by (digits word 0 (length last_chunk)) (drop taken values) last_chunk
      → (taken + added ≡ count mask)
      × (put_mid (64 * whole) (64 * whole + n - 64 * whole) mid part ≡ scattered_by mask values old)
  front_last len part added many made =
      front_all (front_word all_whole same enough n room word clear of_mask len part added many
      made) same (omega (arith, size))
