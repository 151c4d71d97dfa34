-- Values taken at indices that are all in range, where each position counts.
use Rattle.std.proofs.Common.{◌≡◌, ℕ, pos, negsuc, ◌^◌, ◌<◌, Bool, false, cond, List, length, map}
use Rattle.std.proofs.Common.{get_or, slice_get, Some, None, sym, ap, ◌∙◌, arith}
use Rattle.std.specs.List.{All}
use Rattle.std.specs.Option.{option_and_then}
use Rattle.std.proofs.lemmas.Bool.{lt-ltb}
use Rattle.std.proofs.lemmas.List.{same_lists, length-map, get_or-map, get_or_default}
use Rattle.std.proofs.lemmas.Option.{slice_get-get_or}
use Rattle.vb_bits.specs.Bits.{at}
use Rattle.vb_take.specs.Takes.{value_at, taken_at, IsTaken, IsFirstPast}

-- the value at an index of 64 bits
value_there : (l : List Bool) (p : ℕ)
    → p < length l → p < 2 ^ 64 → value_at l (pos p) ≡ Some (at l p)
value_there l p within fits =
    ap (λ b. option_and_then (slice_get l) (cond b (Some p) None)) (lt-ltb p (2 ^ 64) fits)
    ∙ slice_get-get_or l p false within

same_value : (a b : Bool) → Some a ≡ Some b → a ≡ b
same_value a b e = cc

module _ (l : List Bool)
    (ps : List ℕ) (within : All (λ p. p < length l) ps) (fits : All (λ p. p < 2 ^ 64) ps) where
  -- each position takes the value at its index
  pub taken_at-places : (i : ℕ)
      → i < length ps → taken_at l (map pos ps) None i ≡ Some (at l (get_or ps i 0))
  taken_at-places i h =
      ap (value_at l) (get_or-map pos ps i 0 (negsuc 0) h)
      ∙ value_there l (get_or ps i 0) (within i 0 h) (fits i 0 h)

  -- the values taken are those at the indices
  pub IsTaken-places : (taken : List Bool)
      → IsTaken l (map pos ps) None taken → taken ≡ map (at l) ps
  IsTaken-places taken h =
      let len : length (map pos ps) ≡ length ps = length-map ps pos in
      same_lists _ _ (h.same_len ∙ len ∙ sym (length-map ps (at l))) (λ i d below.
      let here : i < length ps = omega (arith, h.same_len) in
      let read : get_or taken i d ≡ at taken i = get_or_default taken i d false below in
      read ∙ same_value _ _ (sym (h.each i (omega arith)) ∙ taken_at-places i here)
      ∙ sym (get_or-map (at l) ps i 0 d here))

  -- each position takes a value, so none is the first without one
  pub IsFirstPast-places : (p : ℕ) → IsFirstPast l (map pos ps) None p → ⊥
  IsFirstPast-places p h =
      let here : p < length ps = omega (arith, h.within, length-map ps pos) in
      let some : None ≡ Some (at l (get_or ps p 0)) = sym h.past ∙ taken_at-places p here in
      cc
