-- Items that positions take.
use Rattle.std.proofs.Common.{◌≡◌, ℕ, ℤ, negsuc, ◌+◌, ◌-◌, ◌<◌, ◌≤◌, Bool, true, false, cond}
use Rattle.std.proofs.Common.{inl, inr, ◌&&◌, List, map, length, get_or, take}
use Rattle.std.proofs.Common.{slice_set}
use Rattle.std.proofs.Common.{Option, Some, None, refl, sym, ap, subst, ◌∙◌, arith}
use Rattle.std.proofs.lemmas.Bool.{cases_lt}
use Rattle.std.proofs.lemmas.List.{get_or-map, get_or-take, length-map, length-take}
use Rattle.std.proofs.lemmas.List.{get_or-set_same, get_or-set_other}
use Rattle.std.specs.Int.Bits.{bit_and}
use Rattle.std.specs.Prelude.{IsSome}
use Rattle.std.proofs.lemmas.Option.{slice_get-get_or}
use Rattle.vb_bits.specs.Digits.{has_bit}
use Rattle.vb_bits.proofs.DigitsLemmas.{has_bit-and}
use Rattle.vb_take.specs.Takes.{is_valid, TakenTo}
use Rattle.vb_take.specs.ItemsTaken.{item_named, item_or, item_taken, AreTaken, IsFirstUntaken}

-- the first of two holds
first_of_both : (a b : Bool) → (a && b) ≡ true → a ≡ true
first_of_both true b h = refl
first_of_both false b h = cc

module _ {T X : Type 0} (f : X → ℤ) (zero : T) (items : List T) (xs : List X)
    (v : Option (List Bool)) where
  -- an index that was read
  pub taken_here : (k : ℕ) (x : X) (r : Option T) (t : Bool) → k < length xs → x ≡ get_or xs k x
      → t ≡ is_valid v k → r ≡ cond t (item_named items (f x)) (Some zero)
      → item_taken zero items (map f xs) v k ≡ r
  taken_here k x r t h read valid e =
      let index : get_or (map f xs) k (negsuc 0) ≡ f x =
      get_or-map f xs k x (negsuc 0) h ∙ ap f (sym read) in
      ap (λ z. cond (is_valid v k) (item_named items z) (Some zero)) index
      ∙ ap (λ b. cond b (item_named items (f x)) (Some zero)) (sym valid) ∙ sym e

  -- a position that takes no item is the first, if those before it have theirs
  pub first_here : (k : ℕ) (out : List T)
      → TakenTo k (item_taken zero items (map f xs) v) (item_or zero out) → k < length xs
      → item_taken zero items (map f xs) v k ≡ None
      → IsFirstUntaken zero items (map f xs) v k
  first_here k out before h none = record {
    within = omega (arith, length-map xs f);
    past = none;
    before = λ i low. subst IsSome (sym (before i low)) refl;
  }

  -- one more position has the item that it takes
  pub taken_more : (k : ℕ) (value : T) (out new : List T)
      → TakenTo k (item_taken zero items (map f xs) v) (item_or zero out) → k < length out
      → item_taken zero items (map f xs) v k ≡ Some value → new ≡ slice_set out k value
      → TakenTo (k + 1) (item_taken zero items (map f xs) v) (item_or zero new)
  taken_more k value out new before inside here set = λ i h. elim (cases_lt i k) [
    | inl low ↦ before i low ∙ ap Some
        (sym (ap (λ o. get_or o i zero) set
        ∙ get_or-set_other out k i value zero (λ e. absurd (omega arith))))
    | inr high ↦
        let same : i ≡ k = omega arith in
        ap (item_taken zero items (map f xs) v) same ∙ here
        ∙ ap Some (sym (ap (λ j. get_or new j zero) same ∙ ap (λ o. get_or o k zero) set
        ∙ get_or-set_same out k value zero inside))
  ]

  -- all positions have the items that they take
  pub all_taken : (out : List T) → length xs ≤ length out
      → TakenTo (length xs) (item_taken zero items (map f xs) v) (item_or zero out)
      → AreTaken zero items (map f xs) v (take (length xs) out)
  all_taken out room all =
      let many : length (take (length xs) out) ≡ length xs = simp (length-take) (omega arith) in
      let same = length-map xs f in
      record {
        same_len = many ∙ sym same;
        each = λ i h.
            let below : i < length xs = omega arith in
            all i below ∙ ap Some (sym (get_or-take (length xs) out i zero below))
            ∙ sym (slice_get-get_or (take (length xs) out) i zero (omega arith));
      }

-- a bit that is 1 after the lowest one is cleared was 1 before
pub left_before : (left k : ℕ) → has_bit (bit_and left (left - 1)) k ≡ true
    → has_bit left k ≡ true
left_before left k h =
    first_of_both (has_bit left k) (has_bit (left - 1) k) (sym (has_bit-and left (left - 1) k) ∙ h)
