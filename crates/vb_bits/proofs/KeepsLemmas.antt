-- Writes within a window, and within the first bits of some bytes.
use Rattle.std.proofs.Common.{◌≡◌, inl, inr, ℕ, ◌+◌, ◌≤◌, Bool, List, length, refl, ap, ◌∙◌}
use Rattle.std.proofs.Common.{arith}
use Rattle.vb_bits.specs.Bits.{bits}
use Rattle.vb_bits.specs.Writes.{Writes, KeepsBehind}
use Rattle.vb_bits.proofs.BitsLemmas.{length-bits}

-- one more write
pub KeepsBehind-write : (n : ℕ) (old out new : List ℕ) (o : ℕ) (m : List Bool)
    → KeepsBehind n old out → Writes out new o m → o + length m ≤ n → KeepsBehind n old new
KeepsBehind-write n old out new o m keeps w h = record {
  same_len = w.same_len ∙ keeps.same_len;
  others = λ i high. w.others i (inr (omega arith)) ∙ keeps.others i high;
}

-- new is old with its first n bits written
pub Writes-first : (n : ℕ) (old new : List ℕ) → KeepsBehind n old new
    → Writes old new 0 (bits new 0 n)
Writes-first n old new keeps =
    let size : length (bits new 0 n) ≡ n = length-bits new 0 n in
    record {
      same_len = keeps.same_len;
      window = ap (bits new 0) size;
      others = λ i h.
          elim h [ inl low ↦ absurd (omega arith) | inr high ↦ keeps.others i (omega arith) ];
    }

-- nothing is written yet
pub Writes-inside_none : (b : List ℕ) (o n : ℕ) → Writes b b o (bits b o n)
Writes-inside_none b o n = record {
  same_len = refl;
  window = ap (bits b o) (length-bits b o n);
  others = λ i h. refl;
}

-- one more write within a window
pub Writes-inside : (b c d : List ℕ) (o n p : ℕ) (m : List Bool) → Writes b c o (bits c o n)
    → Writes c d p m → o ≤ p → p + length m ≤ o + n → Writes b d o (bits d o n)
Writes-inside b c d o n p m before w from to = record {
  same_len = w.same_len ∙ before.same_len;
  window = ap (bits d o) (length-bits d o n);
  others = λ i h. w.others i (elim h [
    | inl low ↦ inl (omega arith)
    | inr high ↦ inr (omega (arith, length-bits d o n))
  ]) ∙ before.others i (elim h [
    | inl low ↦ inl low
    | inr high ↦ inr (omega (arith, length-bits d o n, length-bits c o n))
  ]);
}
