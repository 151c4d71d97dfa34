-- Windows of units of w bytes, one after the other.
use Rattle.std.proofs.Common.{◌≡◌, ℕ, ◌+◌, ◌*◌, ◌/◌, ◌%◌, ◌≤◌, Bool, List, ap, arith, subst}
use Rattle.std.below.core.specs.declared.ops.ControlFlow.TheVariants.{Break}
use Rattle.std.specs.Prelude.{slice_range}
use Rattle.vb_bits.specs.Bits.{bits, count}
use Rattle.vb_count.specs.Hits.{hits}
use Rattle.vb_select.specs.Searches.{Searched}
use Rattle.vb_bits.proofs.BytesLemmas.{bits_of_read}
use Rattle.vb_select.proofs.SearchesLemmas.{Searched_after, Searched_longer}

-- the bits of unit k, read with size s
pub bits_of_unit : (b c xs : List ℕ) (o p w s k : ℕ)
    → c ≡ b → s ≡ w → o % 8 ≡ 0 → p ≡ o + 8 * (w * k)
    → xs ≡ slice_range c (o / 8 + s * k) (o / 8 + s * k + w) → bits xs 0 (8 * w) ≡ bits b p (8 * w)
bits_of_unit b c xs o p w s k same size aligned place read =
    bits_of_read b c xs (o / 8 + s * k) w p same read (omega (arith, ap (λ x. x * k) size))

-- found in the unit at index m of a window
pub found_in_unit : (v : Bool) (b xs : List ℕ) (o m z w n left p : ℕ)
    → m + 8 * w ≤ z → bits xs 0 (8 * w) ≡ bits b (o + m) (8 * w)
    → n ≡ left + count (hits v (bits b o m)) → Searched (hits v (bits xs 0 (8 * w))) left
    (Break p) → Searched (hits v (bits b o z)) n (Break (m + p))
found_in_unit v b xs o m z w n left p within is passed found =
    Searched_longer v b o (m + 8 * w) z n (m + p) within
    (Searched_after v b o m (8 * w) n left p passed
    (subst (λ l. Searched (hits v l) left (Break p)) is found))
