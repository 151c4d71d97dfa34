-- Items written after others.
use Rattle.std.proofs.Common.{◌≡◌, ℕ, ◌+◌, ◌<◌, ◌≤◌, ◌^◌, List}
use Rattle.std.proofs.Common.{[], ◌∷◌, ◌++◌, length, map, get_or, take, drop, refl}
use Rattle.std.proofs.Common.{sym, ap, subst, ◌∙◌, arith, append_assoc, length-append}
use Rattle.std.proofs.lemmas.List.{nil_from_length, append-nil, drop-drop, take-append-drop}
use Rattle.std.specs.Prelude.{count_ones}
use Rattle.vb_bits.specs.Digits.{digits}
use Rattle.vb_bits.specs.Kept.{kept_by}
use Rattle.vb_filter.specs.Gathered.{PutsAt}
use Rattle.vb_walk.proofs.WordOnes.{ones, map-ones, length-kept_by_ones}

-- items written after items
pub puts-add : {T : Type 0} (s : ℕ) (xs ys old mid new : List T) → PutsAt s xs old mid
    → PutsAt (s + length xs) ys mid new → PutsAt s (xs ++ ys) old new
puts-add s xs ys old mid new before more =
    let n : ℕ = s + length xs in
    let end : s + length (xs ++ ys) ≡ n + length ys = omega (arith, length-append xs ys) in
    record {
      front = ap (λ k. take k new) end ∙ more.front ∙ ap (λ l. l ++ ys) before.front
          ∙ append_assoc (take s old) xs ys;
      behind = ap (λ k. drop k new) end ∙ more.behind ∙ sym (drop-drop (length ys) n mid)
          ∙ ap (drop (length ys)) before.behind ∙ drop-drop (length ys) n old
          ∙ sym (ap (λ k. drop k old) end);
    }

-- no items written
pub puts_none : {T : Type 0} (s : ℕ) (xs : List T) → PutsAt s [] xs xs
puts_none s xs =
    let end : s + 0 ≡ s = omega arith in
    record { front = ap (λ k. take k xs) end ∙ sym (append-nil (take s xs)); behind = refl }

-- items written in front
pub puts_front : {T : Type 0} (xs old new : List T) (n : ℕ) → n ≡ length xs → PutsAt 0 xs old new
    → new ≡ xs ++ drop n old
puts_front xs old new n same put =
    let end : 0 + length xs ≡ n = omega arith in
    sym (take-append-drop n new) ∙ ap (λ l. l ++ drop n new)
    (ap (λ k. take k new) (sym end) ∙ put.front)
    ∙ ap (λ l. xs ++ l) (ap (λ k. drop k new) (sym end) ∙ put.behind
    ∙ ap (λ k. drop k old) end)

-- the values at the ones of a word, written after others; any item of the lists is a default for an
-- index that is past their end
pub puts_ones : {T : Type 0} (xs old new : List T) (w s end : ℕ) → length new ≡ length old
    → w < 2 ^ length xs → s + count_ones w ≤ length old → end ≡ s + count_ones w
    → ((d : T) → take end new ≡ take s old ++ map (λ i. get_or xs i d) (ones (length xs) w))
    → drop end new ≡ drop end old → PutsAt s (kept_by (digits w 0 (length xs)) xs) old new
puts_ones xs [] new w s end same clear room place front behind =
    let many = length-kept_by_ones xs w clear in
    let nothing : kept_by (digits w 0 (length xs)) xs ≡ [] =
    nil_from_length (kept_by (digits w 0 (length xs)) xs) (omega (arith, many, room)) in
    let empty : new ≡ [] = nil_from_length new same in
    subst (λ l. PutsAt s l [] new) (sym nothing)
    (subst (λ l. PutsAt s [] [] l) (sym empty) (puts_none s []))
puts_ones xs (y ∷ old) new w s end same clear room place front behind =
    let at : end ≡ s + length (kept_by (digits w 0 (length xs)) xs) =
    place ∙ ap (λ k. s + k) (sym (length-kept_by_ones xs w clear)) in
    record {
      front = ap (λ k. take k new) (sym at) ∙ front y
          ∙ ap (λ l. take s (y ∷ old) ++ l) (map-ones y w xs);
      behind = subst (λ k. drop k new ≡ drop k (y ∷ old)) at behind;
    }
