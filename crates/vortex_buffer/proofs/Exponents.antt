-- Exponents of alignments that are part of a type.
use Rattle.std.proofs.Common.{◌≡◌, ℕ, ◌-◌, ◌%◌, ◌^◌, ◌≤◌, List, [], ◌∷◌, IsTrue, inl, inr, refl}
use Rattle.std.proofs.Common.{sym, ap, subst, ◌∙◌, arith}
use Rattle.std.specs.Prelude.{◌⊎◌}
use Rattle.std.proofs.Math.Nat.{zero-mod}
use Rattle.std.proofs.Math.Pow.{pow-lt}
use Rattle.std.proofs.lemmas.Bool.{cases_eq}
use Rattle.std.specs.Int.{is_power_of_two}
use Rattle.vb_core.proofs.Powers.{pow-injective, is_power_of_two-pow}
use Rattle.vb_core.specs.Alignments.{IsPower, halvings}
use Rattle.vb_mem.proofs.Places.{mod-mod-lesser}
use Rattle.vb_mem.specs.SharedBuffer.{SharedBuffer, IsPlaceAligned, IsAlignedTo}
use Rattle.vortex_buffer.specs.Fixed.{OfBytes}

-- a buffer with an alignment also has each lesser alignment
pub lesser : {T : Type 0} (b : SharedBuffer T) (j k : ℕ) → k ≤ j → IsAlignedTo b j → IsAlignedTo b k
lesser b j k le (inl none) = inl none
lesser b j k le (inr at) =
    inr (
      sym (mod-mod-lesser b.place j k le) ∙ ap (λ m. m % 2 ^ k) at.0
          ∙ zero-mod (2 ^ k),
      omega (arith, at.1),
    )

-- a number of bytes has one exponent
one_exponent : (j k n : ℕ) → 2 ^ j ≡ n → 2 ^ k ≡ n → j ≡ k
one_exponent j k n p q = pow-injective j k (p ∙ sym q)

-- if P holds of k and 2 ^ k is n, P holds of the exponent of n bytes
pub of_bytes : (P : ℕ → Type 0) (k n : ℕ) → 2 ^ k ≡ n → P k → OfBytes n P
of_bytes P k n p here = λ j q. subst P (one_exponent k j n p q) here

-- the lesser of two powers of two has the lesser exponent
pub least_of_bytes : (align least k n : ℕ) → align ≡ 2 ^ least → align ≤ n → 2 ^ k ≡ n → least ≤ k
least_of_bytes align least k n p le q = grind (arith, pow-lt)

of_place : {T : Type 0} (items : List T) (place declared k : ℕ)
    → ((items ≡ []) ⊎ IsPlaceAligned place declared k)
    ⊎ ¬ ((items ≡ []) ⊎ IsPlaceAligned place declared k)
of_place [] place declared k = inl (inl refl)
of_place (x ∷ xs) place declared k =
    elim (cases_eq (place % 2 ^ k) 0) [
      | inr apart ↦ inr (elim [ inl none ↦ cc | inr both ↦ apart both.0 ])
      | inl at ↦ elim (cases_eq (k - declared) 0) [
        | inr apart ↦ inr (elim [ inl none ↦ cc | inr both ↦ apart (omega (arith, both.1)) ])
        | inl fits ↦ inl (inr (at, omega arith))
      ]
    ]

-- a buffer either has an alignment or does not have it
pub aligned_or_not : {T : Type 0} (b : SharedBuffer T) (k : ℕ)
    → IsAlignedTo b k ⊎ ¬ (IsAlignedTo b k)
aligned_or_not b k = of_place b.list b.place b.declared k

-- a power of two has exactly one digit that is 1
pub is_power : (n : ℕ) → IsPower n → IsTrue (is_power_of_two n)
is_power n (inl one) = one
is_power n (inr halved) =
    subst (λ m. IsTrue (is_power_of_two m)) halved (is_power_of_two-pow (halvings 64 n))
