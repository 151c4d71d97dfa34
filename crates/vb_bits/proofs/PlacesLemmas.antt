-- The indices of true values.
use Rattle.std.proofs.Common.{◌≡◌, ℕ, zero, suc, ◌+◌, ◌<◌, ◌≤◌, Bool, true, false, cond, List, []}
use Rattle.std.proofs.Common.{◌∷◌, ◌++◌, length, map, filter, refl, ap, ◌∙◌, arith, add-zero}
use Rattle.std.specs.List.{All, range_with_len}
use Rattle.std.proofs.lemmas.List.{get_or_append_left, length-append, length-map, get_or-append-add}
use Rattle.std.proofs.lemmas.List.Elements.{filter-append, All-append, All-cons, All-nil, All-map}
use Rattle.std.proofs.lemmas.List.Elements.{All-weaker}
use Rattle.std.proofs.lemmas.List.Sums.{count_by-le-length}
use Rattle.vb_bits.specs.Bits.{at, count, places}
use Rattle.vb_bits.proofs.BitsLemmas.{count-cons}
use Rattle.vb_bits.proofs.RangeLemmas.{range_with_len-add, same_filter-range_with_len}

-- a range that starts m later
range_with_len_later : (a m n : ℕ)
    → range_with_len (m + a) n ≡ map (λ i. m + i) (range_with_len a n)
range_with_len_later a m zero = refl
range_with_len_later a m (suc n) = let e : m + a + 1 ≡ m + (a + 1) = omega arith in
    ap (λ l. (m + a) ∷ l) (ap (λ x. range_with_len x n) e ∙ range_with_len_later (a + 1) m n)

-- filtering mapped numbers is mapping filtered ones
filter-map : (p : ℕ → Bool) (f : ℕ → ℕ) (xs : List ℕ)
    → filter p (map f xs) ≡ map f (filter (λ x. p (f x)) xs)
filter-map p f [] = refl
filter-map p f (x ∷ xs) =
    ap (λ l. cond (p (f x)) (f x ∷ l) l) (filter-map p f xs)
    ∙ elim (p (f x)) as (λ b. cond b (f x ∷ map f (filter (λ x. p (f x)) xs))
    (map f (filter (λ x. p (f x)) xs)) ≡ map f (cond b (x ∷ filter (λ x. p (f x)) xs)
    (filter (λ x. p (f x)) xs))) [ true ↦ refl | false ↦ refl ]

-- the indices in a list of no values
pub places_none : places [] ≡ []
unfolding places
places_none = refl

-- the index of one value
places_one : (b : Bool) → places (b ∷ []) ≡ cond b (0 ∷ []) []
unfolding places
places_one true = refl
places_one false = refl

-- the indices in two lists, one after the other
pub places-append : (k l : List Bool)
    → places (k ++ l) ≡ places k ++ map (λ i. length k + i) (places l)
unfolding places
places-append k l =
    let m : ℕ = length k in let n : ℕ = length l in
    let p : ℕ → Bool = at (k ++ l) in
    let front : filter p (range_with_len 0 m) ≡ filter (at k) (range_with_len 0 m) =
    same_filter-range_with_len p
    (at k) 0 m (λ i lo hi. get_or_append_left k l false i (omega arith)) in
    let back : filter (λ i. p (m + i)) (range_with_len 0 n) ≡ filter (at l) (range_with_len 0 n) =
    same_filter-range_with_len (λ i. p (m + i)) (at l) 0 n
    (λ i lo hi. get_or-append-add k l i false) in
    let z : 0 + m ≡ m + 0 = omega arith in
    ap (λ x. filter p (range_with_len 0 x)) (length-append k l) ∙ ap (filter p)
    (range_with_len-add 0 m n) ∙ filter-append p (range_with_len 0 m) (range_with_len (0 + m) n)
    ∙ ap (λ x. x ++ filter p (range_with_len (0 + m) n)) front
    ∙ ap (λ x. filter (at k) (range_with_len 0 m) ++ filter p (range_with_len x n)) z
    ∙ ap (λ x. filter (at k) (range_with_len 0 m) ++ filter p x) (range_with_len_later 0 m n)
    ∙ ap (λ x. filter (at k) (range_with_len 0 m) ++ x)
    (filter-map p (λ i. m + i) (range_with_len 0 n) ∙ ap (map (λ i. m + i)) back)

-- one more value at the front
pub places_cons : (b : Bool) (l : List Bool)
    → places (b ∷ l) ≡ cond b (0 ∷ []) [] ++ map (λ i. 1 + i) (places l)
places_cons b l =
    places-append (b ∷ []) l ∙ ap (λ ps. ps ++ map (λ i. 1 + i) (places l)) (places_one b)

-- one more value at the end
pub places_push : (l : List Bool) (b : Bool)
    → places (l ++ b ∷ []) ≡ places l ++ cond b (length l ∷ []) []
places_push l true =
    places-append l (true ∷ []) ∙ ap (λ x. places l ++ map (λ i. length l + i) x) (places_one true)
    ∙ ap (λ n. places l ++ n ∷ []) (add-zero (length l))
places_push l false = places-append l (false ∷ [])
    ∙ ap (λ x. places l ++ map (λ i. length l + i) x) (places_one false)

-- the number of indices is the number of true values
pub length-places : (l : List Bool) → length (places l) ≡ count l
length-places [] = ap length places_none
length-places (b ∷ l) =
    ap length (places-append (b ∷ []) l)
    ∙ length-append (places (b ∷ [])) (map (λ i. 1 + i) (places l))
    ∙ omega (
      arith,
      length-map (places l) (λ i. 1 + i),
      length-places l,
      count-cons b l,
      length_one b,
    )
  where
    length_one : (b : Bool) → length (places (b ∷ [])) ≡ cond b 1 0
    length_one true = ap length (places_one true)
    length_one false = ap length (places_one false)

-- it is at most the number of values
pub places_few : (l : List Bool) → length (places l) ≤ length l
places_few l = omega (arith, length-places l, count_by-le-length (λ b. b) l)

-- each index is below the length
pub places_below : (l : List Bool) → All (λ i. i < length l) (places l)
places_below [] = rw places_none (All-nil (λ i. i < 0))
places_below (b ∷ l) =
    let P : ℕ → Type 0 = λ i. i < length (b ∷ l) in
    let later : All (λ i. P (1 + i)) (places l) = All-weaker (λ i. i < length l)
    (λ i. P (1 + i)) (λ i h. omega arith) (places l) (places_below l) in
    rw (places_cons b l) (All-append P (cond b (0 ∷ []) [])
    (map (λ i. 1 + i) (places l)) (first b) (All-map P (λ i. 1 + i) (places l) later))
  where
    first : (b : Bool) → All (λ i. i < length (b ∷ l)) (cond b (0 ∷ []) [])
    first true = All-cons (λ i. i < length (true ∷ l)) 0 []
        (omega arith) (All-nil (λ i. i < length (true ∷ l)))
    first false = All-nil (λ i. i < length (false ∷ l))
