-- Comparisons by a number, written to the bytes of their window.
use Rattle.std.proofs.Common.{◌≡◌, ℕ, ◌+◌, ◌-◌, ◌/◌, ◌%◌, Bool, List, length, subst}
use Rattle.std.specs.Int.{div_ceil}
use borrow.Rule.Slice.PartMut.{put_mid}
use Rattle.vb_bits.specs.InBytes.{InBytes}
use Rattle.vb_bits.specs.Writes.{Writes}
use Rattle.vb_c_core.proofs.PartLemmas.{part, Writes_in_part}
use Rattle.vb_compare.specs.declared.comparison.Comparison.{Comparison}

-- the n results of the comparison of a number
pub answers_in_part : (answers : Comparison → List Bool) (op known : Comparison)
    → (b c : List ℕ) (o n e : ℕ) → op ≡ known → length (answers known) ≡ n → InBytes b o n
    → e ≡ div_ceil (o + n) 8 → Writes (part b o e) c (o % 8) (answers op)
    → Writes b (put_mid (o / 8) (e - o / 8) b c) o (answers known)
answers_in_part answers op known b c o n e same size window end w =
    Writes_in_part b c o e n (answers known) size window end
    (subst (λ k. Writes (part b o e) c (o % 8) (answers k)) same w)
