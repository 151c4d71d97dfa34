-- Windows of bytes, as windows of only those bytes that have a bit of them.
use Rattle.std.proofs.Common.{◌≡◌, ◌⊎◌, inl, inr, ℕ, ◌+◌, ◌-◌, ◌*◌, ◌/◌, ◌%◌, ◌<◌, ◌≤◌, Bool, List}
use Rattle.std.proofs.Common.{length, take, drop, get_or, ap, sym, ◌∙◌, arith}
use Rattle.std.specs.Int.{div_ceil}
use Rattle.std.proofs.lemmas.List.{length-take, length-drop, get_or-take}
use Rattle.std.proofs.lemmas.Bool.{cases_lt}
use borrow.Rule.Slice.PartMut.{put_mid}
use Rattle.vb_bits.specs.Bits.{bit_of, bits}
use Rattle.vb_bits.specs.Digits.{has_bit}
use Rattle.vb_bits.specs.InBytes.{InBytes}
use Rattle.vb_bits.specs.Writes.{Writes}
use Rattle.vb_bits.proofs.WindowLemmas.{bits-take_bytes, bits-drop_bytes, bit_of-drop}
use Rattle.vb_bits.proofs.WritesLemmas.{Writes_by_bits, Writes-at, length-put_mid}
use Rattle.vb_bits.proofs.WritesLemmas.{get_or-put_mid_inside, get_or-put_mid_outside}

-- the bytes from the one of bit o up to byte e, e excluded
abbrev pub part : List ℕ → ℕ → ℕ → List ℕ
part b o e = take (e - o / 8) (drop (o / 8) b)

-- they have the window of n bits from bit o on, if it ends in the last of them
pub bits_of_part : (b : List ℕ) (o n e : ℕ) → e ≡ div_ceil (o + n) 8
    → bits (part b o e) (o % 8) n ≡ bits b o n
bits_of_part b o n e end =
    bits-take_bytes (e - o / 8) (drop (o / 8) b) (o % 8) n (omega (arith, end))
    ∙ bits-drop_bytes b o n

-- the number of these bytes
length-part : (b : List ℕ) (o e : ℕ) → e ≤ length b → length (part b o e) ≡ e - o / 8
length-part b o e inside = simp (length-take, length-drop) (omega arith)

module _ (b c : List ℕ) (o e : ℕ) where
  -- the bytes, with c in place of these
  abbrev whole : List ℕ
  whole = put_mid (o / 8) (e - o / 8) b c

  -- a bit of them
  bit_inside : (i : ℕ) → length c ≡ e - o / 8 → e ≤ length b → o / 8 ≤ i / 8 → i / 8 < e
      → bit_of whole i ≡ bit_of c (i - 8 * (o / 8))
  bit_inside i long inside low high =
      let k : ℕ = i / 8 - o / 8 in
      let byte : o / 8 + k ≡ i / 8 = omega arith in
      let here : (i - 8 * (o / 8)) / 8 ≡ k = omega arith in
      let digit : i % 8 ≡ (i - 8 * (o / 8)) % 8 = omega arith in
      ap (λ j. has_bit (get_or whole j 0) (i % 8)) (sym byte)
      ∙ ap (λ x. has_bit x (i % 8))
      (get_or-put_mid_inside (o / 8) (e - o / 8) b c k long (omega arith) (omega arith))
      ∙ ap (λ j. has_bit (get_or c j 0) (i % 8)) (sym here)
      ∙ ap (has_bit (get_or c ((i - 8 * (o / 8)) / 8) 0)) digit

  -- a write to these bytes is a write to all bytes
  pub Writes_in_part : (n : ℕ) (m : List Bool) → length m ≡ n → InBytes b o n
      → e ≡ div_ceil (o + n) 8 → Writes (part b o e) c (o % 8) m → Writes b whole o m
  Writes_in_part n m size window end w =
      let within : o + n ≤ 8 * e = omega (arith, end) in
      let inside : e ≤ length b = omega (arith, end, window.inside) in
      let long : length c ≡ e - o / 8 = w.same_len ∙ length-part b o e inside in
      Writes_by_bits b whole o m
      (length-put_mid (o / 8) (e - o / 8) b c long (omega arith))
      (λ i d l.
      let place : o + i - 8 * (o / 8) ≡ o % 8 + i = omega arith in
      bit_inside (o + i) long inside (omega arith) (omega arith) ∙ ap (bit_of c) place
      ∙ Writes-at (part b o e) c (o % 8) i m d w l)
      (λ i h. elim (cases_lt (i / 8) (o / 8)) [
        | inl before ↦ kept i long (inl before)
        | inr from ↦ elim (cases_lt (i / 8) e) [
          | inl here ↦
              let k : ℕ = i - 8 * (o / 8) in
              let back : 8 * (o / 8) + k ≡ i = omega arith in
              bit_inside i long inside from here
              ∙ w.others k (elim h [
                | inl low ↦ inl (omega arith)
                | inr high ↦ inr (omega arith)
              ])
              ∙ ap (λ x. has_bit x (k % 8))
              (get_or-take (e - o / 8) (drop (o / 8) b) (k / 8) 0 (omega arith))
              ∙ bit_of-drop (o / 8) b k ∙ ap (bit_of b) back
          | inr behind ↦ kept i long (inr (omega arith))
        ]
      ])
    where
      kept : (i : ℕ) → length c ≡ e - o / 8 → (i / 8 < o / 8) ⊎ (o / 8 + (e - o / 8) ≤ i / 8)
          → bit_of whole i ≡ bit_of b i
      kept i long h = ap (λ x. has_bit x (i % 8))
          (get_or-put_mid_outside (o / 8) (e - o / 8) b c (i / 8) long (omega arith) h)
