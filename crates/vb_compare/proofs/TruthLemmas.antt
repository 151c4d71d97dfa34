-- Results of a comparison of lists, and of their parts.
use Rattle.std.proofs.Common.{◌≡◌, ℕ, suc, zero, ◌+◌, ◌-◌, ◌*◌, ◌/◌, ◌^◌, ◌<◌, ◌≤◌, Bool, not}
use Rattle.std.proofs.Common.{List, [], ◌∷◌, ◌++◌, length, map, take, drop, replicate, refl, sym}
use Rattle.std.proofs.Common.{ap, ◌∙◌, arith, false, get_or}
use Rattle.std.proofs.lemmas.List.{take-map, take-take, take_all, take-append-drop}
use Rattle.std.proofs.lemmas.List.{drop-map, drop-drop, length-map, length-drop, length-take-le}
use Rattle.std.proofs.lemmas.Simd.{zip2_splat, length-zip2, get_or-zip2, map-map}
use Rattle.std.proofs.Math.Seq.{take-add, take-append_seam}
use lib.Lanes.{zip2}
use Rattle.vb_bits.specs.Digits.{digits}
use Rattle.vb_bits.proofs.DigitsLemmas.{length-digits, digits-add}
use Rattle.vb_pack.proofs.TruthLemmas.{last_values}

-- ---- two lists, index by index
-- the sides swapped
pub flipped : {X Y Z : Type 0} (f : X → Y → Z) (xs : List X) (ys : List Y)
    → zip2 f xs ys ≡ zip2 (λ y x. f x y) ys xs
flipped f [] [] = refl
flipped f [] (y ∷ ys) = refl
flipped f (x ∷ xs) [] = refl
flipped f (x ∷ xs) (y ∷ ys) = ap (λ l. f x y ∷ l) (flipped f xs ys)

-- the results negated
pub negated : {X Y : Type 0} (f : X → Y → Bool) (xs : List X) (ys : List Y)
    → map not (zip2 f xs ys) ≡ zip2 (λ x y. not (f x y)) xs ys
negated f [] ys = refl
negated f (x ∷ xs) [] = refl
negated f (x ∷ xs) (y ∷ ys) = ap (λ l. not (f x y) ∷ l) (negated f xs ys)

-- the first results
pub take-zip2 : {X Y Z : Type 0} (f : X → Y → Z) (n : ℕ) (xs : List X) (ys : List Y)
    → take n (zip2 f xs ys) ≡ zip2 f (take n xs) (take n ys)
take-zip2 f zero xs ys = refl
take-zip2 f (suc n) [] ys = refl
take-zip2 f (suc n) (x ∷ xs) [] = refl
take-zip2 f (suc n) (x ∷ xs) (y ∷ ys) = ap (λ l. f x y ∷ l) (take-zip2 f n xs ys)

-- one result for each value
pub length_paired : {X Y Z : Type 0} (f : X → Y → Z) (xs : List X) (ys : List Y)
    → length ys ≡ length xs → length (zip2 f xs ys) ≡ length xs
length_paired f xs ys same = length-zip2 f xs ys (omega arith)

zip2-nil : {X Y Z : Type 0} (f : X → Y → Z) (xs : List X) → zip2 f xs [] ≡ []
zip2-nil f [] = refl
zip2-nil f (x ∷ xs) = refl

-- the results after the first ones
pub drop-zip2 : {X Y Z : Type 0} (f : X → Y → Z) (n : ℕ) (xs : List X) (ys : List Y)
    → drop n (zip2 f xs ys) ≡ zip2 f (drop n xs) (drop n ys)
drop-zip2 f zero xs ys = refl
drop-zip2 f (suc n) [] ys = refl
drop-zip2 f (suc n) (x ∷ xs) [] = sym (zip2-nil f (drop n xs))
drop-zip2 f (suc n) (x ∷ xs) (y ∷ ys) = drop-zip2 f n xs ys

-- ---- digits of words
pub take-digits : (w k m : ℕ) → k ≤ m → digits w 0 k ≡ take k (digits w 0 m)
take-digits w k m h =
    let whole : k + (m - k) ≡ m = omega arith in
    sym (ap (λ n. take k (digits w 0 n)) (sym whole) ∙ ap (take k) (digits-add w 0 k (m - k))
    ∙ ap (λ n. take n (digits w 0 k ++ digits w (0 + k) (m - k))) (sym (length-digits w 0 k))
    ∙ take-append_seam (digits w 0 k) (digits w (0 + k) (m - k)))

-- the first k of the m bits of a list that a word has
pub front_digits : (w a k m : ℕ) (l : List Bool) → digits w 0 m ≡ take m (drop a l) → k ≤ m
    → digits w 0 k ≡ take k (drop a l)
front_digits w a k m l e h = take-digits w k m h ∙ ap (take k) e ∙ take-take k m (drop a l) h

-- the last r bits of a list, from the word of its last 64
pub last_digits : (w r : ℕ) (l : List Bool) → 64 ≤ length l
    → digits w 0 64 ≡ take 64 (drop (length l - 64) l) → r ≤ 64
    → digits (w / 2 ^ (64 - r)) 0 r ≡ drop (length l - r) l
last_digits w r l enough e h =
    let from : ℕ = length l - 64 in
    last_values w r l enough h
    (e ∙ take_all 64 (drop from l) (omega (arith, length-drop from l)))

-- ---- values and one number
module _ {X Y : Type 0} (s : Y → Y → Bool) (f : X → Y) (y : Y) (xs : List X) where
  pub to_number : (w at : ℕ) (zs : List Y) → at + 64 ≤ length (map (λ x. s (f x) y) xs)
      → zs ≡ map f (take 64 (take (length xs - at) (drop at xs)))
      → digits w 0 64 ≡ zip2 s zs (replicate 64 y)
      → digits w 0 64 ≡ take 64 (drop at (map (λ x. s (f x) y) xs))
  to_number w at zs h there e =
      let part : List X = take 64 (drop at xs) in
      let inside : at + 64 ≤ length xs = omega (arith, length-map xs (λ x. s (f x) y)) in
      let long : length part ≡ 64 =
      length-take-le 64 (drop at xs) (omega (arith, length-drop at xs)) in
      e ∙ ap (λ l. zip2 s l (replicate 64 y)) (there ∙ ap (λ l. map f (take 64 l))
      (take_all (length xs - at) (drop at xs) (omega (arith, length-drop at xs))))
      ∙ zip2_splat s (map f part) 64 y (length-map part f ∙ long) ∙ map-map (λ z. s z y) f part
      ∙ sym (ap (take 64) (drop-map (λ x. s (f x) y) at xs)
      ∙ take-map (λ x. s (f x) y) 64 (drop at xs))

-- ---- values and others
module _ {X Y : Type 0} (s : Y → Y → Bool) (f : X → Y) where
  -- values are compared as numbers
  pub zip2-values : (xs ys : List X)
      → zip2 s (map f xs) (map f ys) ≡ zip2 (λ x y. s (f x) (f y)) xs ys
  zip2-values [] ys = refl
  zip2-values (x ∷ xs) [] = refl
  zip2-values (x ∷ xs) (y ∷ ys) = ap (λ l. s (f x) (f y) ∷ l) (zip2-values xs ys)

  -- the result at one index
  pub one_of_others : (xs ys : List X) (k : ℕ) (x y : X) (b : Bool) → length ys ≡ length xs
      → k < length (zip2 (λ x y. s (f x) (f y)) xs ys)
      → b ≡ s (f (get_or xs k x)) (f (get_or ys k y))
      → b ≡ get_or (zip2 (λ x y. s (f x) (f y)) xs ys) k false
  one_of_others xs ys k x y b same inside e =
      let answer : X → X → Bool = λ x y. s (f x) (f y) in
      let long = length_paired answer xs ys same in
      e ∙ sym (get_or-zip2 answer xs ys k x y false (omega arith) (omega arith))

  -- the first 64 values of a part
  loaded : (at : ℕ) (zs : List Y) (xs : List X)
      → zs ≡ map f (take 64 (take (length xs - at) (drop at xs)))
      → zs ≡ map f (take 64 (drop at xs))
  loaded at zs xs e =
      e ∙ ap (λ l. map f (take 64 l))
      (take_all (length xs - at) (drop at xs) (omega (arith, length-drop at xs)))

  pub to_others : (w at : ℕ) (xs ys : List X) (zs us : List Y)
      → zs ≡ map f (take 64 (take (length xs - at) (drop at xs)))
      → us ≡ map f (take 64 (take (length ys - at) (drop at ys)))
      → digits w 0 64 ≡ zip2 s zs us
      → digits w 0 64 ≡ take 64 (drop at (zip2 (λ x y. s (f x) (f y)) xs ys))
  to_others w at xs ys zs us left right e =
      let answer : X → X → Bool = λ x y. s (f x) (f y) in
      e ∙ ap (λ l. zip2 s l us) (loaded at zs xs left)
      ∙ ap (zip2 s (map f (take 64 (drop at xs)))) (loaded at us ys right)
      ∙ zip2-values (take 64 (drop at xs)) (take 64 (drop at ys))
      ∙ sym (ap (take 64) (drop-zip2 answer at xs ys)
      ∙ take-zip2 answer 64 (drop at xs) (drop at ys))

-- ---- a list cut at word ends
-- one more word
pub next_word : (l : List Bool) (from k : ℕ)
    → take (64 * k) (drop from l) ++ take 64 (drop (from + 64 * k) l)
    ≡ take (64 * (k + 1)) (drop from l)
next_word l from k =
    let more : 64 * k + 64 ≡ 64 * (k + 1) = omega arith in
    ap (λ m. take (64 * k) (drop from l) ++ take 64 m) (sym (drop-drop (64 * k) from l))
    ∙ sym (take-add (64 * k) 64 (drop from l)) ∙ ap (λ n. take n (drop from l)) more

-- the whole list
pub no_rest : (l : List Bool) (h q : ℕ) → h + q ≡ length l → take h l ++ take q (drop h l) ≡ l
no_rest l h q e = sym (take-add h q l) ∙ take_all (h + q) l (omega arith)

pub with_rest : (l : List Bool) (h q r : ℕ) → h + q ≡ length l - r
    → (take h l ++ take q (drop h l)) ++ drop (length l - r) l ≡ l
with_rest l h q r e =
    ap (λ m. m ++ drop (length l - r) l) (sym (take-add h q l) ∙ ap (λ n. take n l) e)
    ∙ take-append-drop (length l - r) l

pub length_begun : (l : List Bool) (h q : ℕ) → h + q ≤ length l
    → length (take h l ++ take q (drop h l)) ≡ h + q
length_begun l h q inside =
    ap length (sym (take-add h q l)) ∙ length-take-le (h + q) l inside
