-- The values selected by a mask are those at its true indices.
use Rattle.std.proofs.Common.{◌≡◌, ℕ, suc, ◌+◌, ◌*◌, ◌≤◌, Bool, true, false, List, [], ◌∷◌, ◌++◌}
use Rattle.std.proofs.Common.{length, map, get_or, slice_index, refl, ap, sym, ◌∙◌, arith}
use Rattle.std.specs.List.{All, sum, sum_by}
use Rattle.std.proofs.lemmas.List.{length-map}
use Rattle.std.proofs.lemmas.List.Elements.{All-head, All-tail}
use Rattle.std.proofs.lemmas.List.Sums.{sum-map, sum_by-cons}
use Rattle.vb_bits.specs.Bits.{count, places}
use Rattle.vb_bits.specs.Kept.{kept_by}
use Rattle.vb_bits.proofs.PlacesLemmas.{places_none, places_cons, length-places}

module _ {T : Type 0} (d : T) where
  -- with a value put in front, each index is one higher
  shifted : (x : T) (xs : List T) (ps : List ℕ)
      → map (λ i. get_or (x ∷ xs) i d) (map (λ i. 1 + i) ps) ≡ map (λ i. get_or xs i d) ps
  shifted x xs [] = refl
  shifted x xs (p ∷ ps) =
      let e : 1 + p ≡ suc p = omega arith in
      let here : get_or (x ∷ xs) (1 + p) d ≡ get_or xs p d = ap (λ i. get_or (x ∷ xs) i d) e in
      let rest = shifted x xs ps in
      cc

  -- the values at the indices of true bits
  pub map-places : (bits : List Bool) (xs : List T)
      → length bits ≡ length xs → map (λ i. get_or xs i d) (places bits) ≡ kept_by bits xs
  map-places [] xs same = rw places_none refl
  map-places (b ∷ bits) [] same = absurd (omega arith)
  map-places (true ∷ bits) (x ∷ xs) same = rw places_cons
      (ap (λ l. x ∷ l) (shifted x xs (places bits) ∙ map-places bits xs (omega arith)))
  map-places (false ∷ bits) (x ∷ xs) same =
      rw places_cons (shifted x xs (places bits) ∙ map-places bits xs (omega arith))

  -- the number of selected values is that of true bits
  pub length-kept_by : (bits : List Bool) (xs : List T)
      → length bits ≡ length xs → length (kept_by bits xs) ≡ count bits
  length-kept_by bits xs same = ap length (sym (map-places bits xs same))
      ∙ length-map (places bits) (λ i. get_or xs i d) ∙ length-places bits

-- two lists, one after the other
pub kept_by-append : {T : Type 0} (k l : List Bool) (xs ys : List T) → length k ≡ length xs
    → kept_by (k ++ l) (xs ++ ys) ≡ kept_by k xs ++ kept_by l ys
kept_by-append [] l [] ys same = refl
kept_by-append [] l (x ∷ xs) ys same = absurd (omega arith)
kept_by-append (b ∷ k) l [] ys same = absurd (omega arith)
kept_by-append (true ∷ k) l (x ∷ xs) ys same =
    ap (λ zs. x ∷ zs) (kept_by-append k l xs ys (omega arith))
kept_by-append (false ∷ k) l (x ∷ xs) ys same = kept_by-append k l xs ys (omega arith)

-- the sum of the numbers at the indices of true bits
pub sum_by-places : (bits : List Bool) (xs : List ℕ)
    → length bits ≡ length xs → sum_by (slice_index xs) (places bits) ≡ sum (kept_by bits xs)
sum_by-places bits xs same = sym (sum-map (slice_index xs) (places bits))
    ∙ ap (λ (l : List ℕ). sum l) (map-places 0 bits xs same)

-- the sum of numbers that are at most m
pub sum-kept_by-le : (m : ℕ) (bits : List Bool) (xs : List ℕ)
    → All (λ x. x ≤ m) xs → sum (kept_by bits xs) ≤ length xs * m
sum-kept_by-le m [] xs small = omega arith
sum-kept_by-le m (b ∷ bits) [] small = omega arith
sum-kept_by-le m (true ∷ bits) (x ∷ xs) small =
    let rest = sum-kept_by-le m bits xs (All-tail (λ y. y ≤ m) x xs small) in
    let here : x ≤ m = All-head (λ y. y ≤ m) x xs small in
    let first : sum (x ∷ kept_by bits xs) ≡ x + sum (kept_by bits xs) =
    sum_by-cons (λ y. y) x (kept_by bits xs) in
    omega arith
sum-kept_by-le m (false ∷ bits) (x ∷ xs) small =
    let rest = sum-kept_by-le m bits xs (All-tail (λ y. y ≤ m) x xs small) in
    omega arith
