-- Rows that a word of a mask selects.
use Rattle.std.proofs.Common.{◌≡◌, ℕ, ◌+◌, ◌≤◌, Bool, true, ℤ, List, [], length, take, sym, ap}
use Rattle.std.proofs.Common.{subst, ◌∙◌, arith}
use Rattle.std.specs.List.{zip}
use Rattle.std.specs.Prelude.{slice_range}
use Rattle.std.proofs.lemmas.List.{length-take, length-drop}
use Rattle.vb_bits.specs.Digits.{digits}
use Rattle.vb_bits.specs.Kept.{kept_by}
use Rattle.vb_aggregate.proofs.WordsLemmas.{TakesFront, front_more}
use Rattle.vb_group.specs.Groups.{TriesRows}
use Rattle.vb_group.proofs.TriesLemmas.{tries_nothing, tries_both}
use Rattle.vb_group.proofs.ZipLemmas.{length-zip, range-zip}

module _ {C V T : Type 0} (number : C → ℤ) (plus : T → V → T) (is_total : T → Type 0)
    (skips : Bool) (start : List T) where
  -- totals, and whether all rows so far had one
  abbrev pub ShowsRows : List T × Bool → List (C × V) → Type 0
  ShowsRows state rows = TriesRows number plus is_total skips start state.0 rows state.1

  module _ (state : List T) (mask : List Bool) (codes : List C) (values : List V)
      (same : length values ≡ length codes) (of_codes : length mask ≡ length codes) where
    -- the selected rows of n more bits of the mask
    pub rows_more : (a n keep : ℕ) (next : List T) (good : Bool) (some_codes : List C)
        (some_values : List V)
        → a + n ≤ length mask → digits keep 0 n ≡ slice_range mask a (a + n)
        → some_codes ≡ slice_range codes a (a + n) → some_values ≡ slice_range values a (a + n)
        → TriesRows number plus is_total skips state next
        (kept_by (digits keep 0 (length some_codes)) (zip some_codes some_values)) good
        → TakesFront ShowsRows (start, true) (state, true) mask (zip codes values) a
        → TakesFront ShowsRows (start, true) (next, good) mask (zip codes values) (a + n)
    rows_more a n keep next good some_codes some_values inside of_mask are_codes are_values added
        so_far =
        let rows = zip codes values in
        let long : length rows ≡ length mask = length-zip codes values same ∙ sym of_codes in
        let part : zip some_codes some_values ≡ slice_range rows a (a + n) =
        ap (λ l. zip l some_values) are_codes ∙ ap (zip (slice_range codes a (a + n))) are_values
        ∙ sym (range-zip codes values a (a + n) same) in
        let few : length some_codes ≡ n =
        ap length are_codes ∙ simp (length-take, length-drop) (omega (arith, of_codes)) in
        let many : length (slice_range rows a (a + n)) ≡ n =
        simp (length-take, length-drop) (omega (arith, long)) in
        let tries = λ (l : List (C × V)). TriesRows number plus is_total skips state next l good in
        let word : tries (kept_by (digits keep 0 (length (slice_range rows a (a + n))))
        (slice_range rows a (a + n))) =
        subst tries (ap (λ k. kept_by (digits keep 0 k) (zip some_codes some_values))
        (few ∙ sym many) ∙ ap (kept_by (digits keep 0 (length (slice_range rows a (a + n))))) part)
        added in
        front_more ShowsRows (start, true) (state, true) mask rows long a n keep (next, good)
        inside of_mask (λ xs h. tries_both number plus is_total skips start state next xs
        (kept_by (digits keep 0 (length (slice_range rows a (a + n)))) (slice_range rows a (a + n)))
        true good h word) so_far

    -- the totals after the first rows
    pub rows_front : (a : ℕ) (good : Bool)
        → TakesFront ShowsRows (start, true) (state, good) mask (zip codes values) a
        → TriesRows number plus is_total skips start state
        (kept_by (take a mask) (take a (zip codes values))) good
    rows_front a good so_far = so_far [] (tries_nothing number plus is_total skips start)
