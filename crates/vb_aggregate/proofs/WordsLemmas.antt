-- The values that a mask selects, word after word.
use Rattle.std.proofs.Common.{◌≡◌, ℕ, ◌+◌, ◌-◌, ◌*◌, ◌≤◌, Bool, true, false}
use Rattle.std.proofs.Common.{List, [], ◌∷◌, ◌++◌}
use Rattle.std.proofs.Common.{length, take, drop, refl, sym, ap, subst, ◌∙◌, arith}
use Rattle.std.proofs.Common.{append_assoc, zero-add}
use Rattle.std.specs.Prelude.{slice_range}
use Rattle.std.proofs.Math.Seq.{take-add}
use Rattle.std.proofs.lemmas.List.{take_all, length-take, length-drop, nil_from_length, append-nil}
use Rattle.std.proofs.lemmas.Nat.{pow_pos}
use Rattle.vb_bits.specs.Bits.{count}
use Rattle.vb_bits.specs.Digits.{digits}
use Rattle.vb_bits.specs.Kept.{kept_by}
use Rattle.vb_bits.proofs.DigitsLemmas.{count-digits_below}
use Rattle.vb_bits.proofs.KeptLemmas.{kept_by-append}
use Rattle.vb_bits.proofs.WindowLemmas.{count_parts}
use Rattle.vb_walk.proofs.WordOnes.{length-kept_by_any}

-- the first a values, and n more
front-add : {T : Type 0} (xs : List T) (a n : ℕ)
    → take (a + n) xs ≡ take a xs ++ slice_range xs a (a + n)
front-add xs a n =
    let len : a + n - a ≡ n = omega arith in
    take-add a n xs ∙ ap (λ k. take a xs ++ take k (drop a xs)) (sym len)

-- a mask selects at most all values
pub kept-le : {T : Type 0} (mask : List Bool) (values : List T)
    → length (kept_by mask values) ≤ length values
kept-le [] values = omega arith
kept-le (b ∷ mask) [] = omega arith
kept-le (true ∷ mask) (v ∷ values) = let rest = kept-le mask values in omega arith
kept-le (false ∷ mask) (v ∷ values) = let rest = kept-le mask values in omega arith

-- nor in the bits of a word that is 0
pub empty_word : (bits : List Bool) (a n keep : ℕ) → keep ≡ 0
    → digits keep 0 n ≡ slice_range bits a (a + n) → count (slice_range bits a (a + n)) ≡ 0
unfolding lib.Count.ones
empty_word bits a n keep gone of_mask =
    sym (ap count of_mask) ∙ ap (λ w. count (digits w 0 n)) gone
    ∙ count-digits_below 0 n (pow_pos n)

-- nor in two adjacent ranges, if none is in either
pub empty_join : (bits : List Bool) (a b c : ℕ) → a ≤ b → b ≤ c
    → count (slice_range bits a b) ≡ 0 → count (slice_range bits b c) ≡ 0
    → count (slice_range bits a c) ≡ 0
empty_join bits a b c order more left right =
    let parts = count_parts bits a b c (count (slice_range bits a c)) refl order more in
    omega (arith, parts, left, right)

module _ {S T : Type 0} (shows : S → List T → Type 0) (start state : S) (mask : List Bool)
    (values : List T) where
  -- the state has the selected ones of the first a values
  abbrev pub TakesFront : ℕ → Type 0
  TakesFront a = (xs : List T) → shows start xs
      → shows state (xs ++ kept_by (take a mask) (take a values))

module _ {S T : Type 0} (shows : S → List T → Type 0) (start state : S) (mask : List Bool)
    (values : List T) (same : length values ≡ length mask) where
  -- all of them
  pub front_all : (a : ℕ) → length mask ≤ a → TakesFront shows start state mask values a
      → (xs : List T) → shows start xs → shows state (xs ++ kept_by mask values)
  front_all a end so_far xs h =
      let all_mask = take_all a mask end in
      let all_values = take_all a values (omega (arith, same)) in
      subst (λ l. shows state (xs ++ l))
      (ap (λ l. kept_by l (take a values)) all_mask ∙ ap (kept_by mask) all_values) (so_far xs h)

  -- and those of n more, if a word has their bits of the mask
  pub front_more : (a n keep : ℕ) (next : S) → a + n ≤ length mask
      → digits keep 0 n ≡ slice_range mask a (a + n)
      → ((xs : List T) → shows state xs → shows next (xs ++ kept_by (digits keep 0
      (length (slice_range values a (a + n)))) (slice_range values a (a + n))))
      → TakesFront shows start state mask values a
      → TakesFront shows start next mask values (a + n)
  front_more a n keep next inside of_mask add so_far xs h =
      let chunk = slice_range values a (a + n) in
      let long : length chunk ≡ n = simp (length-take, length-drop) (omega (arith, same)) in
      let fronts : length (take a mask) ≡ length (take a values) =
      simp length-take (omega (arith, same)) in
      let front = kept_by (take a mask) (take a values) in
      let word = kept_by (digits keep 0 (length chunk)) chunk in
      let kept : kept_by (take (a + n) mask) (take (a + n) values) ≡ front ++ word =
      ap (λ l. kept_by l (take (a + n) values)) (front-add mask a n)
      ∙ ap (λ l. kept_by (take a mask ++ slice_range mask a (a + n)) l) (front-add values a n)
      ∙ kept_by-append (take a mask) (slice_range mask a (a + n)) (take a values) chunk fronts
      ∙ ap (λ l. front ++ kept_by l chunk)
      (sym of_mask ∙ ap (digits keep 0) (sym long)) in
      subst (shows next) (append_assoc xs front word ∙ ap (λ l. xs ++ l) (sym kept))
      (add (xs ++ front) (so_far xs h))

  -- and those up to b, of which the mask selects none
  pub front_pass : (a b : ℕ) → a ≤ b → b ≤ length mask → count (slice_range mask a b) ≡ 0
      → TakesFront shows start state mask values a
      → TakesFront shows start state mask values b
  front_pass a b order inside empty so_far xs h =
      let n : ℕ = b - a in
      let end : a + n ≡ b = omega arith in
      let bits = slice_range mask a (a + n) in
      let chunk = slice_range values a (a + n) in
      let long : length bits ≡ length chunk =
      simp (length-take, length-drop) (omega (arith, same)) in
      let fronts : length (take a mask) ≡ length (take a values) =
      simp length-take (omega (arith, same)) in
      let front = kept_by (take a mask) (take a values) in
      let none : count bits ≡ 0 =
      ap (λ k. count (slice_range mask a k)) end ∙ empty in
      let nothing : kept_by bits chunk ≡ [] =
      nil_from_length (kept_by bits chunk) (length-kept_by_any bits chunk long ∙ none) in
      let kept : kept_by (take (a + n) mask) (take (a + n) values) ≡ front =
      ap (λ l. kept_by l (take (a + n) values)) (front-add mask a n)
      ∙ ap (kept_by (take a mask ++ bits)) (front-add values a n)
      ∙ kept_by-append (take a mask) bits (take a values) chunk fronts
      ∙ ap (λ l. front ++ l) nothing ∙ append-nil front in
      subst (λ k. shows state (xs ++ kept_by (take k mask) (take k values))) end
      (subst (λ l. shows state (xs ++ l)) (sym kept) (so_far xs h))

-- those that one word selects, if it has the whole mask
pub front_word : {S T : Type 0} (shows : S → List T → Type 0) (start next : S) (mask : List Bool)
    (values : List T) → length values ≡ length mask → (n keep : ℕ) → length mask ≡ n
    → digits keep 0 n ≡ slice_range mask 0 (0 + n)
    → ((xs : List T) → shows start xs → shows next (xs ++ kept_by (digits keep 0
    (length (slice_range values 0 n))) (slice_range values 0 n)))
    → (xs : List T) → shows start xs → shows next (xs ++ kept_by mask values)
front_word shows start next mask values same n keep long of_mask add =
    front_all shows start next mask values same (0 + n) (omega (arith, long))
    (front_more shows start start mask values same 0 n keep next (omega (arith, long))
    of_mask (subst (λ k. (xs : List _) → shows start xs → shows next (xs ++ kept_by (digits keep 0
    (length (slice_range values 0 k))) (slice_range values 0 k))) (sym (zero-add n)) add)
    (λ xs h. subst (shows start) (sym (append-nil xs)) h))

-- the words of the mask so far
pub record TakesWords {S T : Type 0} (shows : S → List T → Type 0) (start state : S)
    (mask : List Bool) (values : List T) (whole t : ℕ) : Type 0 where
  pub inside : t ≤ whole
  pub front : TakesFront shows start state mask values (64 * t)

-- no bit of the words from `from` to before t is true
pub record PassesEmpty (bits : List Bool) (from whole t : ℕ) : Type 0 where
  pub after : from ≤ t
  pub within : t ≤ whole
  pub empty : count (slice_range bits (64 * from) (64 * t)) ≡ 0
