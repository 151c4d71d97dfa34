-- Bytes combined one by one.
use Rattle.std.proofs.Common.{◌≡◌, ℕ, ◌+◌, ◌*◌, ◌/◌, ◌%◌, ◌<◌, ◌≤◌, Bool, List}
use Rattle.std.proofs.Common.{get_or, sym, ap, ◌∙◌, arith}
use Rattle.std.proofs.lemmas.List.{same_lists}
use Rattle.vb_bits.specs.Bits.{bit_of, bits}
use Rattle.vb_bits.specs.Digits.{has_bit}
use Rattle.vb_bits.specs.Operators.{merged_by}
use Rattle.vb_bits.proofs.BitsLemmas.{length-bits, at-bits}
use Rattle.vb_bits.proofs.OperatorsLemmas.{at-merged_by, length-merged_bits}

-- each bit of the first m bytes is the combination of two bits
abbrev pub IsMerged : (Bool → Bool → Bool) → List ℕ → List ℕ → List ℕ → ℕ → Type 0
IsMerged f b l r m = (j i : ℕ) → j < m
    → i < 8 → has_bit (get_or b j 0) i ≡ f (has_bit (get_or l j 0) i) (has_bit (get_or r j 0) i)

-- any window of the bytes
pub bits-merged_bytes : (f : Bool → Bool → Bool) (b l r : List ℕ) (m o n : ℕ)
    → IsMerged f b l r m → o + n ≤ 8 * m → bits b o n ≡ merged_by f (bits l o n) (bits r o n)
bits-merged_bytes f b l r m o n is within =
    same_lists _ _ (length-bits b o n ∙ sym (length-merged_bits f l r o o n)) (λ i d h.
    let inside : i < n = omega (arith, length-bits b o n) in
    at-bits b o n i d inside ∙ is ((o + i) / 8) ((o + i) % 8) (omega arith) (omega arith)
    ∙ sym (at-merged_by f (bits l o n) (bits r o n) i d d d (omega (arith, length-bits l o n))
    (omega (arith, length-bits r o n)) ∙ ap (λ x. f x (get_or (bits r o n) i d))
    (at-bits l o n i d inside) ∙ ap (f (bit_of l (o + i))) (at-bits r o n i d inside)))
