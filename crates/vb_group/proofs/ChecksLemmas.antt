-- Codes that are numbers of groups.
use Rattle.std.proofs.Common.{◌≡◌, ℕ, zero, suc, ◌+◌, ℤ, Bool, true, false, inl, inr, List}
use Rattle.std.proofs.Common.{[], ◌∷◌, length, get_or, take, refl, sym, ap, subst, ◌∙◌, arith}
use Rattle.std.proofs.lemmas.List.Elements.{All-nil, All-cons, All-head, All-tail}
use Rattle.std.specs.List.{All, zip}
use Rattle.std.specs.Option.{option_map}
use Rattle.std.specs.Prelude.{Option, Some, None}
use Rattle.std.proofs.lemmas.Bool.{false≢true, cases_lt}
use Rattle.vb_bits.specs.Kept.{kept_by}
use Rattle.vb_group.specs.Groups.{IsGroup, HaveGroups, is_selected, selected}

module _ {C : Type 0} (number : C → ℤ) (groups : ℕ) where
  module _ {V : Type 0} where
    -- the code of a row is that of a group
    abbrev IsRow : C × V → Type 0
    IsRow row = IsGroup groups (number row.0)

    -- all rows that a mask selects
    rows_kept : (codes : List C) (values : List V) (mask : List Bool)
        → length values ≡ length codes → All IsRow (kept_by mask (zip codes values))
        → HaveGroups number groups codes (Some mask) (length codes)
    rows_kept codes values [] same all i d inside on = absurd (false≢true on)
    rows_kept [] values (b ∷ mask) same all i d inside on = absurd (omega arith)
    rows_kept (c ∷ codes) [] (b ∷ mask) same all i d inside on = absurd (omega arith)
    rows_kept (c ∷ codes) (v ∷ values) (true ∷ mask) same all zero d inside on =
        All-head IsRow (c, v) (kept_by mask (zip codes values)) all
    rows_kept (c ∷ codes) (v ∷ values) (false ∷ mask) same all zero d inside on =
        absurd (false≢true on)
    rows_kept (c ∷ codes) (v ∷ values) (true ∷ mask) same all (suc i) d inside on =
        rows_kept codes values mask (omega arith)
        (All-tail IsRow (c, v) (kept_by mask (zip codes values)) all) i d (omega arith) on
    rows_kept (c ∷ codes) (v ∷ values) (false ∷ mask) same all (suc i) d inside on =
        rows_kept codes values mask (omega arith) all i d (omega arith) on

    -- all rows
    rows_each : (codes : List C) (values : List V) → length values ≡ length codes
        → All IsRow (zip codes values) → HaveGroups number groups codes None (length codes)
    rows_each [] values same all i d inside on = absurd (omega arith)
    rows_each (c ∷ codes) [] same all i d inside on = absurd (omega arith)
    rows_each (c ∷ codes) (v ∷ values) same all zero d inside on =
        All-head IsRow (c, v) (zip codes values) all
    rows_each (c ∷ codes) (v ∷ values) same all (suc i) d inside on =
        rows_each codes values (omega arith) (All-tail IsRow (c, v) (zip codes values) all) i d
        (omega arith) on

    -- all selected rows
    pub rows_have : (codes : List C) (values : List V) (mask : Option (List Bool))
        → length values ≡ length codes → All IsRow (selected mask (zip codes values))
        → HaveGroups number groups codes mask (length codes)
    rows_have codes values None same all = rows_each codes values same all
    rows_have codes values (Some mask) same all = rows_kept codes values mask same all

    -- the first n of the rows that a mask selects
    kept_front : (n : ℕ) (codes : List C) (values : List V) (mask : List Bool)
        → HaveGroups number groups codes (Some mask) (length codes)
        → All IsRow (kept_by (take n mask) (take n (zip codes values)))
    kept_front zero codes values mask have = All-nil IsRow
    kept_front (suc n) codes values [] have = All-nil IsRow
    kept_front (suc n) [] values (b ∷ mask) have = All-nil IsRow
    kept_front (suc n) (c ∷ codes) [] (b ∷ mask) have = All-nil IsRow
    kept_front (suc n) (c ∷ codes) (v ∷ values) (true ∷ mask) have =
        All-cons IsRow (c, v) (kept_by (take n mask) (take n (zip codes values)))
        (have zero c (omega arith) refl)
        (kept_front n codes values mask (λ i d inside on. have (suc i) d (omega arith) on))
    kept_front (suc n) (c ∷ codes) (v ∷ values) (false ∷ mask) have =
        kept_front n codes values mask (λ i d inside on. have (suc i) d (omega arith) on)

    -- the first n rows
    each_front : (n : ℕ) (codes : List C) (values : List V)
        → HaveGroups number groups codes None (length codes) → All IsRow (take n (zip codes values))
    each_front zero codes values have = All-nil IsRow
    each_front (suc n) [] values have = All-nil IsRow
    each_front (suc n) (c ∷ codes) [] have = All-nil IsRow
    each_front (suc n) (c ∷ codes) (v ∷ values) have =
        All-cons IsRow (c, v) (take n (zip codes values)) (have zero c (omega arith) refl)
        (each_front n codes values (λ i d inside on. have (suc i) d (omega arith) on))

    -- the first n selected rows
    pub front_have : (n : ℕ) (codes : List C) (values : List V) (mask : Option (List Bool))
        → HaveGroups number groups codes mask (length codes)
        → All IsRow (selected (option_map (take n) mask) (take n (zip codes values)))
    front_have n codes values None have = each_front n codes values have
    front_have n codes values (Some mask) have = kept_front n codes values mask have

  -- one more row, whose code is that of a group if it is selected
  pub have_more : (codes : List C) (mask : Option (List Bool)) (row : ℕ)
      → HaveGroups number groups codes mask row
      → ((d : C) → is_selected mask row ≡ true → IsGroup groups (number (get_or codes row d)))
      → HaveGroups number groups codes mask (row + 1)
  have_more codes mask row before here i d below on = elim (cases_lt i row) [
    | inl low ↦ before i d low on
    | inr high ↦
        let same : i ≡ row = omega arith in
        subst (λ k. IsGroup groups (number (get_or codes k d))) (sym same)
        (here d (ap (is_selected mask) (sym same) ∙ on))
  ]
