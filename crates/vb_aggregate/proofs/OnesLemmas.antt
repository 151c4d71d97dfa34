-- Folds of the values at the ones of a word.
use Rattle.std.proofs.Common.{◌≡◌, ℕ, ◌+◌, ◌-◌, ◌<◌, ◌≤◌, ◌^◌, Bool, List, [], ◌∷◌, ◌++◌, length}
use Rattle.std.proofs.Common.{map, get_or, refl, sym, ap, subst, ◌∙◌, arith, append_assoc}
use Rattle.std.proofs.Common.{length-append}
use Rattle.std.proofs.lemmas.List.{nil_from_length, append-nil}
use Rattle.std.specs.Int.{trailing_zeros, w64}
use Rattle.std.specs.Int.Bits.{bit_and}
use Rattle.std.specs.Prelude.{count_ones}
use Rattle.std.proofs.lemmas.Nat.{and_le_l}
use Rattle.vb_bits.specs.Digits.{digits}
use Rattle.vb_bits.specs.Kept.{kept_by}
use Rattle.vb_bits.proofs.BitsLemmas.{count-le}
use Rattle.vb_bits.proofs.DigitsLemmas.{length-digits, count-digits_below}
use Rattle.vb_walk.proofs.WordOnes.{ones, ones_none, ones_first, length-ones, map-ones}
use Rattle.vb_walk.proofs.WordOnes.{length-kept_by_ones, kept_all}

-- no values, whatever the bits
kept_nil : {T : Type 0} (bits : List Bool) → kept_by {T = T} bits [] ≡ []
kept_nil [] = refl
kept_nil (b ∷ bits) = refl

-- a word without a one selects nothing
pub kept_zero : {T : Type 0} (keep : ℕ) (xs : List T) → keep ≡ 0 → keep < 2 ^ length xs
    → kept_by (digits keep 0 (length xs)) xs ≡ []
kept_zero keep xs gone clear =
    nil_from_length (kept_by (digits keep 0 (length xs)) xs)
    (length-kept_by_ones xs keep clear ∙ sym (length-ones (length xs) keep clear)
    ∙ ap (λ k. length (ones (length xs) k)) gone ∙ ap length (ones_none (length xs)))

-- a word with one 1 for each value selects all
pub kept_full : {T : Type 0} (keep : ℕ) (xs : List T) → count_ones keep ≡ length xs
    → keep < 2 ^ length xs → kept_by (digits keep 0 (length xs)) xs ≡ xs
kept_full keep xs full clear =
    let long = length-digits keep 0 (length xs) in
    kept_all (digits keep 0 (length xs)) xs long
    (count-digits_below keep (length xs) clear ∙ full ∙ sym long)

-- a word selects at most all values
pub kept_few : {T : Type 0} (keep : ℕ) (xs : List T) → keep < 2 ^ length xs
    → length (kept_by (digits keep 0 (length xs)) xs) ≤ length xs
kept_few keep xs clear =
    omega (
      arith,
      length-kept_by_ones xs keep clear,
      count-digits_below keep (length xs) clear,
      count-le (digits keep 0 (length xs)),
      length-digits keep 0 (length xs),
    )

-- the state has the values at the ones of `keep` that are no longer in `left`
pub record TakesOnes {S T : Type 0} (shows : S → List T → Type 0) (start state : S)
    (values : List T) (keep left : ℕ) : Type 0 where
  pub done : List T
  pub front : (d : T) → done ++ map (λ i. get_or values i d) (ones (length values) left)
      ≡ map (λ i. get_or values i d) (ones (length values) keep)
  pub number : length done + length (ones (length values) left)
      ≡ length (ones (length values) keep)
  pub clear : left < 2 ^ length values
  pub shown : (xs : List T) → shows start xs → shows state (xs ++ done)

-- none so far
pub takes_none : {S T : Type 0} (shows : S → List T → Type 0) (start : S) (values : List T)
    (keep : ℕ) → keep < 2 ^ length values → TakesOnes shows start start values keep keep
takes_none shows start values keep clear = record {
  done = [];
  front = λ d. refl;
  number = omega arith;
  clear = clear;
  shown = λ xs h. subst (shows start) (sym (append-nil xs)) h;
}

module _ {S T : Type 0} {shows : S → List T → Type 0} {start state : S} {values : List T}
    {keep left : ℕ} (so_far : TakesOnes shows start state values keep left) where
  -- the value at the lowest one that is left
  pub takes_more : (value : T) (next : S) → 0 < left → length values ≤ 64
      → ((d : T) → get_or values (trailing_zeros w64 left) d ≡ value)
      → ((xs : List T) → shows state xs → shows next (xs ++ (value ∷ [])))
      → TakesOnes shows start next values keep (bit_and left (left - 1))
  takes_more value next some few read add =
      let n : ℕ = length values in
      let first = ones_first n left some so_far.clear few in
      record {
        done = so_far.done ++ (value ∷ []);
        front = λ d.
            let at = λ (i : ℕ). get_or values i d in
            let rest = map at (ones n (bit_and left (left - 1))) in
            append_assoc so_far.done (value ∷ []) rest
            ∙ ap (λ v. so_far.done ++ (v ∷ rest)) (sym (read d))
            ∙ ap (λ l. so_far.done ++ map at l) (sym first) ∙ so_far.front d;
        number = omega (
          arith,
          so_far.number,
          ap length first,
          length-append so_far.done (value ∷ []),
        );
        clear = omega (arith, and_le_l left (left - 1), so_far.clear);
        shown = λ xs h. subst (shows next) (append_assoc xs so_far.done (value ∷ []))
            (add (xs ++ so_far.done) (so_far.shown xs h));
      }

  -- the values folded so far, once none is left
  done_is : (vs : List T) → vs ≡ values → left ≡ 0 → keep < 2 ^ length vs
      → so_far.done ≡ kept_by (digits keep 0 (length vs)) vs
  done_is [] same gone clear =
      let none : ones (length values) left ≡ [] =
      ap (ones (length values)) gone ∙ ones_none (length values) in
      let many : length (ones (length values) keep) ≡ count_ones keep =
      ap (λ l. length (ones (length l) keep)) (sym same) ∙ length-ones 0 keep clear in
      let kept = length-kept_by_ones {T = T} [] keep clear in
      let nothing = kept_nil {T = T} (digits keep 0 0) in
      nil_from_length so_far.done
      (omega (arith, so_far.number, ap length none, many, kept, ap length nothing)) ∙ sym nothing
  done_is (v ∷ vs) same gone clear =
      let none : ones (length values) left ≡ [] =
      ap (ones (length values)) gone ∙ ones_none (length values) in
      sym (append-nil so_far.done)
      ∙ ap (λ l. so_far.done ++ map (λ i. get_or values i v) l) (sym none) ∙ so_far.front v
      ∙ ap (λ l. map (λ i. get_or l i v) (ones (length l) keep)) (sym same)
      ∙ map-ones v keep (v ∷ vs)

  -- all values that the word selects
  pub takes_all : left ≡ 0 → keep < 2 ^ length values → (xs : List T) → shows start xs
      → shows state (xs ++ kept_by (digits keep 0 (length values)) values)
  takes_all gone clear xs h =
      subst (λ l. shows state (xs ++ l)) (done_is values refl gone clear) (so_far.shown xs h)
