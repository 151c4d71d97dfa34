-- Bits written after others that are unchanged.
use Rattle.std.proofs.Common.{◌≡◌, inl, inr, ℕ, ◌+◌, ◌-◌, Bool, false, List, ◌++◌, length, get_or}
use Rattle.std.proofs.Common.{sym, ap, ◌∙◌, arith, zero-add}
use Rattle.std.proofs.lemmas.List.{length-append, get_or_append_left, get_or-append_right}
use Rattle.vb_bits.specs.Bits.{bits, bit_of}
use Rattle.vb_bits.specs.Writes.{Writes}
use Rattle.vb_bits.proofs.BitsLemmas.{length-bits, at-bits}
use Rattle.vb_bits.proofs.WritesLemmas.{Writes_by_bits, Writes-at}

-- a write that leaves the bits before bit o unchanged is a write from bit o on
pub Writes_behind_same : (b c : List ℕ) (o : ℕ) (m : List Bool)
    → Writes b c 0 (bits b 0 o ++ m) → Writes b c o m
Writes_behind_same b c o m w =
    let before = bits b 0 o in
    let size : length before ≡ o = length-bits b 0 o in
    let whole : length (before ++ m) ≡ o + length m =
    length-append before m ∙ ap (λ k. k + length m) size in
    Writes_by_bits b c o m w.same_len
    (λ i d h.
    let place : o + i - o ≡ i = omega arith in
    ap (bit_of c) (sym (zero-add (o + i)))
    ∙ Writes-at b c 0 (o + i) (before ++ m) d w (omega (arith, whole))
    ∙ get_or-append_right before m o (o + i) d size (omega arith)
    ∙ ap (λ k. get_or m k d) place)
    (λ i h. elim h [
      | inl low ↦
          ap (bit_of c) (sym (zero-add i))
          ∙ Writes-at b c 0 i (before ++ m) false w (omega (arith, whole))
          ∙ get_or_append_left before m false i (omega (arith, size))
          ∙ at-bits b 0 o i false low ∙ ap (bit_of b) (zero-add i)
      | inr high ↦ w.others i (inr (omega (arith, whole)))
    ])
