-- Windows that are copied within their bytes, block by block.
use Rattle.std.proofs.Common.{◌≡◌, inl, inr, ℕ, ◌+◌, ◌≤◌, List, ◌++◌, length, sym, ap}
use Rattle.std.proofs.Common.{subst, ◌∙◌, arith}
use Rattle.vb_bits.specs.Bits.{bits}
use Rattle.vb_bits.specs.Writes.{Writes}
use Rattle.vb_bits.proofs.BitsLemmas.{length-bits, bits-add, same_bits}
use Rattle.vb_bits.proofs.WritesLemmas.{Writes-add, bits_outside}

-- the same copy, with other names for its numbers
pub moved_at : (b c : List ℕ) (d s n e t k : ℕ) → Writes b c d (bits b s n)
    → e ≡ d → t ≡ s → k ≡ n → Writes b c e (bits b t k)
moved_at b c d s n e t k moved into from size =
    subst (λ x. Writes b c x (bits b t k)) (sym into)
    (subst (λ x. Writes b c d (bits b x k)) (sym from)
    (subst (λ x. Writes b c d (bits b s x)) (sym size) moved))

-- a copy by way of other bytes
pub moved_by : (before block b c : List ℕ) (d s n : ℕ) → Writes before block 0 (bits b s n)
    → Writes b c d (bits block 0 n) → Writes b c d (bits b s n)
moved_by before block b c d s n read =
    subst (Writes b c d) (ap (bits block 0) (sym (length-bits b s n)) ∙ read.window)

module _ {b mid c : List ℕ} (d s m n : ℕ) where
  -- towards the front: the first m bits, and then the next n
  pub moved_more : d ≤ s → Writes b mid d (bits b s m)
      → Writes mid c (d + m) (bits mid (s + m) n) → Writes b c d (bits b s (m + n))
  moved_more down one two =
      let long : length (bits b s m) ≡ m = length-bits b s m in
      let same : bits mid (s + m) n ≡ bits b (s + m) n =
      bits_outside b mid d (s + m) n (bits b s m) one (omega arith) in
      subst (Writes b c d) (sym (bits-add b s m n))
      (Writes-add b mid c d (d + m) (bits b s m) (bits b (s + m) n) (omega arith) one
      (subst (Writes mid c (d + m)) same two))

  -- towards the end: the last n bits, and then the first m
  pub moved_before : s ≤ d → Writes b mid (d + m) (bits b (s + m) n)
      → Writes mid c d (bits mid s m) → Writes b c d (bits b s (m + n))
  moved_before up last first =
      let whole : length (bits b s (m + n)) ≡ m + n = length-bits b s (m + n) in
      let long : length (bits b (s + m) n) ≡ n = length-bits b (s + m) n in
      let short : length (bits b s m) ≡ m = length-bits b s m in
      let same : bits mid s m ≡ bits b s m =
      same_bits mid b s s m (λ i h. last.others (s + i) (inl (omega arith))) in
      let front : Writes mid c d (bits b s m) = subst (Writes mid c d) same first in
      let kept : bits c (d + m) n ≡ bits mid (d + m) n =
      bits_outside mid c d (d + m) n (bits b s m) front (omega arith) in
      record {
        same_len = front.same_len ∙ last.same_len;
        window = ap (bits c d) whole ∙ bits-add c d m n
            ∙ ap (λ x. x ++ bits c (d + m) n) (ap (bits c d) (sym short) ∙ front.window)
            ∙ ap (λ x. bits b s m ++ x)
            (kept ∙ ap (bits mid (d + m)) (sym long) ∙ last.window) ∙ sym (bits-add b s m n);
        others = λ i h.
            front.others i (elim h [ inl low ↦ inl low | inr high ↦ inr (omega arith) ])
            ∙ last.others i (elim h [
              | inl low ↦ inl (omega arith)
              | inr high ↦ inr (omega arith)
            ]);
      }
