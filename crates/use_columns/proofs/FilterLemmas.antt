-- Masks of conditions, and the values that they select.
use Rattle.std.proofs.Common.{◌≡◌, ℕ, Bool, true, false, ◌&&◌, cond, List, [], ◌∷◌, length, map}
use Rattle.std.proofs.Common.{Option, Some, None, is_some, not, filter, slice_index}
use Rattle.std.proofs.Common.{refl, sym, ap, ◌∙◌, arith, pos, int_eq, nat_eq}
use Rattle.std.specs.Simd.Lanes.{zip2}
use Rattle.std.proofs.lemmas.Bool.Decides.{nat_tests}
use Rattle.std.proofs.lemmas.Int.{ints}
use Rattle.std.proofs.lemmas.List.{length-map, get_or-map}
use Rattle.vortex_buffer.proofs.AnswersLemmas.{map-span}
use Rattle.vortex_buffer.specs.Asked.{span}
use Rattle.vortex_buffer.specs.Kept.{kept_by}
use Rattle.vortex_buffer.specs.Kleene.{and_truths, truths, is_truth}
use Rattle.vortex_buffer.specs.Operators.{merged_by}
use Rattle.use_columns.specs.Filters.{matches_of}

-- a mask of a test and one of valid rows
pub merged_matches_of : (test : ℕ → Bool) (bits : List Bool) (values : List ℕ) → length bits
    ≡ length values → merged_by (λ a b. a && b) (map test values) bits ≡ matches_of test bits values
unfolding merged_by
merged_matches_of test [] [] same = refl
merged_matches_of test [] (value ∷ values) same = absurd (omega arith)
merged_matches_of test (bit ∷ bits) [] same = absurd (omega arith)
merged_matches_of test (bit ∷ bits) (value ∷ values) same =
    ap (λ l. (test value && bit) ∷ l) (merged_matches_of test bits values (omega arith))

-- the mask has one bit per row
pub length-matches_of : (test : ℕ → Bool) (bits : List Bool) (values : List ℕ)
    → length bits ≡ length values → length (matches_of test bits values) ≡ length values
length-matches_of test [] [] same = refl
length-matches_of test [] (value ∷ values) same = absurd (omega arith)
length-matches_of test (bit ∷ bits) [] same = absurd (omega arith)
length-matches_of test (bit ∷ bits) (value ∷ values) same =
    omega (arith, length-matches_of test bits values (omega arith))

-- selecting the matching rows gives the same as filtering the valid values
pub kept_by_matches_of : (test : ℕ → Bool) (bits : List Bool) (values : List ℕ)
    → kept_by (matches_of test bits values) values ≡ filter test (kept_by bits values)
kept_by_matches_of test [] values = refl
kept_by_matches_of test (bit ∷ bits) [] = refl
kept_by_matches_of test (true ∷ bits) (value ∷ values) =
    elim (test value) as (λ t. kept_by ((t && true) ∷ matches_of test bits values) (value ∷ values)
    ≡ cond
    t (value ∷ filter test (kept_by bits values)) (filter test (kept_by bits values))) [
      | true ↦ ap (λ l. value ∷ l) (kept_by_matches_of test bits values)
      | false ↦ kept_by_matches_of test bits values
    ]
kept_by_matches_of test (false ∷ bits) (value ∷ values) =
    elim (test value) as (λ t. kept_by ((t && false) ∷ matches_of test bits values)
    (value ∷ values) ≡ filter test (kept_by bits values)) [
      | true ↦ kept_by_matches_of test bits values
      | false ↦ kept_by_matches_of test bits values
    ]

-- a test of the value at each index
pub map_of_span : (test : ℕ → Bool) (values : List ℕ)
    → map (λ k. test (slice_index values k)) (span 0 (length values)) ≡ map test values
map_of_span test values =
    map-span (λ k. test (slice_index values k)) (map test values)
    (length values) (sym (length-map values test))
    (λ k h. sym (get_or-map test values k 0 false h))

-- a comparison with the same results as the test
pub tested : (answer test : ℕ → Bool) (values : List ℕ)
    → ((value : ℕ) → answer value ≡ test value) → map answer values ≡ map test values
tested answer test [] same = refl
tested answer test (value ∷ values) same =
    ap (λ b. b ∷ map answer values) (same value)
    ∙ ap (λ l. test value ∷ l) (tested answer test values same)

-- as natural numbers
pub nat_equal : (x y : ℕ) → int_eq (pos x) (pos y) ≡ nat_eq x y
nat_equal x y = grind (arith, ints, nat_tests)

-- the rows that are valid and not true
pub known_false : (t : List (Option Bool))
    → merged_by (λ a b. a && not b) (map is_some t) (map (is_truth true) t) ≡ map (is_truth false) t
unfolding merged_by
known_false [] = refl
known_false (None ∷ t) = ap (λ l. false ∷ l) (known_false t)
known_false (Some true ∷ t) = ap (λ l. false ∷ l) (known_false t)
known_false (Some false ∷ t) = ap (λ l. true ∷ l) (known_false t)

-- the same columns combined
pub same_columns : (a b c d x y z w : List Bool) → a ≡ x → b ≡ y → c ≡ z → d ≡ w
    → zip2 and_truths (truths a (Some b)) (truths c (Some d))
    ≡ zip2 and_truths (truths x (Some y)) (truths z (Some w))
same_columns a b c d x y z w e f g h =
    ap (λ l. zip2 and_truths (truths l (Some b)) (truths c (Some d))) e
    ∙ ap (λ l. zip2 and_truths (truths x (Some l)) (truths c (Some d))) f
    ∙ ap (λ l. zip2 and_truths (truths x (Some y)) (truths l (Some d))) g
    ∙ ap (λ l. zip2 and_truths (truths x (Some y)) (truths z (Some l))) h
