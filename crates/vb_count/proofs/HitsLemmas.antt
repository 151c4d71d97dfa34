-- The values that equal v.
use Rattle.std.proofs.Common.{◌≡◌, ℕ, ◌+◌, ◌-◌, ◌*◌, ◌≤◌, Bool, true, false, not, List, ◌++◌}
use Rattle.std.proofs.Common.{length, refl, sym, ap, ◌∙◌, arith}
use Rattle.std.proofs.lemmas.List.{length-map, map-append}
use Rattle.vb_bits.specs.Bits.{bits, count, complement}
use Rattle.vb_count.specs.Hits.{hits}
use Rattle.vb_bits.proofs.BitsLemmas.{bits-add, length-bits, count-append, count-le}
use Rattle.vb_bits.proofs.BitsLemmas.{count-bits_none, count-complement, count-complement_none}

-- the list keeps its length
pub length-hits : (v : Bool) (l : List Bool) → length (hits v l) ≡ length l
length-hits true l = refl
length-hits false l = length-map l not

-- in two lists, one after the other
pub hits-append : (v : Bool) (k l : List Bool) → hits v (k ++ l) ≡ hits v k ++ hits v l
hits-append true k l = refl
hits-append false k l = map-append not k l

-- in a window cut in two
pub hits-bits-add : (v : Bool) (b : List ℕ) (o m n : ℕ)
    → hits v (bits b o (m + n)) ≡ hits v (bits b o m) ++ hits v (bits b (o + m) n)
hits-bits-add v b o m n =
    ap (hits v) (bits-add b o m n) ∙ hits-append v (bits b o m) (bits b (o + m) n)

-- their count in a window cut in two
pub count-hits-bits-add : (v : Bool) (b : List ℕ) (o m n : ℕ) → count (hits v
    (bits b o (m + n))) ≡ count (hits v (bits b o m)) + count (hits v (bits b (o + m) n))
count-hits-bits-add v b o m n = ap count (hits-bits-add v b o m n)
    ∙ count-append (hits v (bits b o m)) (hits v (bits b (o + m) n))

-- the same, with the offset and the length of the second part as the code has them
pub count-hits-bits_split : (v : Bool) (b : List ℕ) (o m z p k : ℕ)
    → p ≡ o + m → z ≡ m + k → count (hits v (bits b o z))
    ≡ count (hits v (bits b o m)) + count (hits v (bits b p k))
count-hits-bits_split v b o m z p k place end =
    ap (λ n. count (hits v (bits b o n))) end ∙ count-hits-bits-add v b o m k
    ∙ ap (λ x. count (hits v (bits b o m)) + count (hits v (bits b x k))) (sym place)

-- their count in a window extended by a unit of w bytes
pub count_unit_more : (v : Bool) (b xs : List ℕ) (o m z w : ℕ)
    → z ≡ m + 8 * w → bits xs 0 (8 * w) ≡ bits b (o + m) (8 * w)
    → count (hits v (bits b o z))
    ≡ count (hits v (bits b o m)) + count (hits v (bits xs 0 (8 * w)))
count_unit_more v b xs o m z w longer is =
    ap (λ n. count (hits v (bits b o n))) longer ∙ count-hits-bits-add v b o m (8 * w)
    ∙ ap (λ l. count (hits v (bits b o m)) + count (hits v l)) (sym is)

-- none in a window of no bits
pub count-hits-bits_none : (v : Bool) (b : List ℕ) (o : ℕ) → count (hits v (bits b o 0)) ≡ 0
count-hits-bits_none true b o = count-bits_none b o
count-hits-bits_none false b o = count-complement_none b o

-- the list itself, if true is sought
pub matching_true : (v : Bool) (l : List Bool) → v ≡ true → hits v l ≡ l
matching_true true l e = refl
matching_true false l e = cc

-- its complement, if false is sought
pub matching_false : (v : Bool) (l : List Bool) → v ≡ false → hits v l ≡ complement l
matching_false true l e = cc
matching_false false l e = refl

-- at most the number of bits of the window
pub count-hits-bits-le : (v : Bool) (b : List ℕ) (o n : ℕ) → count (hits v (bits b o n)) ≤ n
count-hits-bits-le v b o n = omega (
  arith,
  count-le (hits v (bits b o n)),
  length-hits v (bits b o n),
  length-bits b o n,
)

-- their count in a window, if true is sought
pub count-hits-bits_true : (v : Bool) (b : List ℕ) (o n : ℕ)
    → v ≡ true → count (hits v (bits b o n)) ≡ count (bits b o n)
count-hits-bits_true v b o n e = ap count (matching_true v (bits b o n) e)

-- their count in a window, if false is sought
pub count-hits-bits_false : (v : Bool) (b : List ℕ) (o n : ℕ)
    → v ≡ false → count (hits v (bits b o n)) ≡ n - count (bits b o n)
count-hits-bits_false v b o n e = omega (
  arith,
  ap count (matching_false v (bits b o n) e),
  count-complement (bits b o n),
  length-bits b o n,
)
