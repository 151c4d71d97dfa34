-- Values that positions take, one by one and by words of up to 64.
use Rattle.std.proofs.Common.{◌≡◌, inl, inr, ℕ, ℤ, negsuc, ◌+◌, ◌-◌, ◌^◌, ◌<◌, ◌≤◌, Bool}
use Rattle.std.proofs.Common.{false, cond, List, map, length, get_or}
use Rattle.std.proofs.Common.{Option, Some, refl, sym, ap, subst, ◌∙◌, arith, zero-add}
use Rattle.std.specs.Prelude.{IsSome, Err}
use Rattle.std.proofs.lemmas.Bool.{cases_lt}
use Rattle.std.proofs.lemmas.List.{get_or-map, length-map}
use Rattle.vb_bits.specs.Bits.{bit_of, bits}
use Rattle.vb_bits.specs.Digits.{has_bit, digits}
use Rattle.vb_bits.specs.Writes.{Writes}
use Rattle.vb_bits.proofs.BitsLemmas.{length-bits, at-bits}
use Rattle.vb_bits.proofs.DigitsLemmas.{length-digits, at-digits}
use Rattle.vb_bits.proofs.PackedLemmas.{with_digit, digit_other, digit_same}
use Rattle.vb_bits.proofs.WritesLemmas.{Writes-at}
use Rattle.vb_take.specs.Takes.{is_valid, value_at, taken_at, TakenTo, TakesPart, IsTaken}
use Rattle.vb_take.specs.Takes.{IsFirstPast}

-- ---- one position
-- an option that is `Some b` has a value
some_taken : (o : Option Bool) (b : Bool) → o ≡ Some b → IsSome o
some_taken o b e = subst IsSome (sym e) refl

-- an index that was read
pub taken_here : {X : Type 0} (f : X → ℤ) (l : List Bool) (xs : List X) (v : Option (List Bool))
    (k : ℕ) (x : X) (r : Option Bool) (t : Bool) → k < length xs → x ≡ get_or xs k x
    → t ≡ is_valid v k → r ≡ cond t (value_at l (f x)) (Some false) → taken_at l (map f xs) v k ≡ r
taken_here f l xs v k x r t h read valid e =
    let index : get_or (map f xs) k (negsuc 0) ≡ f x =
    get_or-map f xs k x (negsuc 0) h ∙ ap f (sym read) in
    ap (λ z. cond (is_valid v k) (value_at l z) (Some false)) index
    ∙ ap (λ b. cond b (value_at l (f x)) (Some false)) (sym valid) ∙ sym e

-- ---- up to 64 positions
-- one more position has the value that it takes
pub TakenTo-digit : (k word : ℕ) (taken : ℕ → Option Bool) (b : Bool) → k < 64 → word < 2 ^ k
    → TakenTo k taken (has_bit word) → taken k ≡ Some b
    → TakenTo (k + 1) taken (has_bit (with_digit word k b))
TakenTo-digit k word taken b in_word small before here = λ i h. elim (cases_lt i k) [
  | inl low ↦ before i low ∙ ap Some (sym (digit_other word k b i in_word low))
  | inr high ↦
      let same : i ≡ k = omega arith in
      ap taken same ∙ here ∙ ap Some (sym (digit_same word k b in_word small)
      ∙ ap (has_bit (with_digit word k b)) (sym same))
]

-- m more positions have the values that they take
pub TakenTo-word : (o n m : ℕ) (taken : ℕ → Option Bool) (out new : List ℕ) (word : ℕ)
    → TakenTo n taken (λ i. bit_of out (o + i)) → TakenTo m (λ k. taken (n + k)) (has_bit word)
    → Writes out new (o + n) (digits word 0 m) → TakenTo (n + m) taken (λ i. bit_of new (o + i))
TakenTo-word o n m taken out new word before takes w = λ i h. elim (cases_lt i n) [
  | inl low ↦ before i low ∙ ap Some (sym (w.others (o + i) (inl (omega arith))))
  | inr high ↦
      let k : ℕ = i - n in
      let small : k < m = omega arith in
      let here : n + k ≡ i = omega arith in
      let place : o + n + k ≡ o + i = omega arith in
      let bit : bit_of new (o + n + k) ≡ has_bit word (0 + k) =
      Writes-at out new (o + n) k (digits word 0 m) false w (omega (arith, length-digits word 0 m))
      ∙ at-digits word 0 m k false small in
      ap taken (sym here) ∙ takes k small
      ∙ ap Some (ap (has_bit word) (sym (zero-add k)) ∙ sym bit ∙ ap (bit_of new) place)
]

-- the first of m positions that takes no value is the first of all
pub IsFirstPast-part : (l : List Bool) (xs : List ℤ) (v : Option (List Bool)) (n m p : ℕ)
    (has : ℕ → Bool) → TakenTo n (taken_at l xs v) has → n + m ≤ length xs
    → TakesPart (λ k. taken_at l xs v (n + k)) m (Err p) → IsFirstPast l xs v (n + p)
IsFirstPast-part l xs v n m p has before within takes = record {
  within = omega (arith, takes.0);
  past = takes.1;
  before = λ i h. elim (cases_lt i n) [
    | inl low ↦ some_taken (taken_at l xs v i) (has i) (before i low)
    | inr high ↦
        let k : ℕ = i - n in
        let here : n + k ≡ i = omega arith in
        subst IsSome (ap (taken_at l xs v) here) (takes.2 k (omega arith))
  ];
}

-- ---- all positions
-- the bits are those taken
pub IsTaken-all : {X : Type 0} (f : X → ℤ) (l : List Bool) (xs : List X) (v : Option (List Bool))
    (out : List ℕ) (o : ℕ) → TakenTo (length xs) (taken_at l (map f xs) v) (λ i. bit_of out (o + i))
    → IsTaken l (map f xs) v (bits out o (length xs))
IsTaken-all f l xs v out o all =
    let size : length (map f xs) ≡ length xs = length-map xs f in
    record {
      same_len = length-bits out o (length xs) ∙ sym size;
      each = λ i h.
          let low : i < length xs = omega (arith, size) in
          all i low ∙ ap Some (sym (at-bits out o (length xs) i false low));
    }
