-- A write to k bytes from byte a on, as a write to all bytes.
use Rattle.std.proofs.Common.{◌≡◌, ◌⊎◌, inl, inr, ℕ, ◌+◌, ◌-◌, ◌*◌, ◌/◌, ◌%◌, ◌<◌, ◌≤◌, Bool, List}
use Rattle.std.proofs.Common.{length, take, drop, get_or, ap, sym, ◌∙◌, arith, zero-add}
use Rattle.std.proofs.lemmas.Bool.{cases_lt}
use Rattle.std.proofs.lemmas.List.{length-take, length-drop, get_or-take}
use borrow.Rule.Slice.PartMut.{put_mid}
use Rattle.vb_bits.specs.Bits.{bit_of}
use Rattle.vb_bits.specs.Digits.{has_bit}
use Rattle.vb_bits.specs.Writes.{Writes}
use Rattle.vb_bits.proofs.WindowLemmas.{bit_of-drop}
use Rattle.vb_bits.proofs.WritesLemmas.{Writes_by_bits, Writes-at, length-put_mid}
use Rattle.vb_bits.proofs.WritesLemmas.{get_or-put_mid_inside, get_or-put_mid_outside}

module _ (b c : List ℕ) (a k : ℕ) (inside : a + k ≤ length b) where
  -- the bytes, with c in place of k of them
  abbrev whole : List ℕ
  whole = put_mid a k b c

  -- a bit of them
  moved : (i : ℕ) → length c ≡ k → i < 8 * k → bit_of whole (8 * a + i) ≡ bit_of c i
  moved i long h =
      let byte : (8 * a + i) / 8 ≡ a + i / 8 = omega arith in
      let digit : (8 * a + i) % 8 ≡ i % 8 = omega arith in
      ap (λ j. has_bit (get_or whole j 0) ((8 * a + i) % 8)) byte
      ∙ ap (has_bit (get_or whole (a + i / 8) 0)) digit
      ∙ ap (λ x. has_bit x (i % 8))
      (get_or-put_mid_inside a k b c (i / 8) long inside (omega arith))

  -- a bit of another byte
  kept : (i : ℕ) → length c ≡ k → (i / 8 < a) ⊎ (a + k ≤ i / 8) → bit_of whole i ≡ bit_of b i
  kept i long h = ap (λ x. has_bit x (i % 8))
      (get_or-put_mid_outside a k b c (i / 8) long inside h)

  -- a write to these bytes is a write to all bytes
  pub Writes_behind : (o : ℕ) (m : List Bool) → o ≡ 8 * a → length m ≤ 8 * k
      → Writes (take k (drop a b)) c 0 m → Writes b whole o m
  Writes_behind o m start few w =
      let size : length (take k (drop a b)) ≡ k = simp (length-take, length-drop)
      (omega (arith, inside)) in
      let long : length c ≡ k = w.same_len ∙ size in
      Writes_by_bits b whole o m (length-put_mid a k b c long inside)
      (λ i d l.
      let place : o + i ≡ 8 * a + i = omega (arith, start) in
      ap (bit_of whole) place ∙ moved i long (omega (arith, few))
      ∙ ap (bit_of c) (sym (zero-add i))
      ∙ Writes-at (take k (drop a b)) c 0 i m d w l)
      (λ i h. elim (cases_lt i (8 * a)) [
        | inl before ↦ kept i long (inl (omega arith))
        | inr from ↦ elim (cases_lt i (8 * (a + k))) [
          | inl here ↦
              let j : ℕ = i - 8 * a in
              let back : 8 * a + j ≡ i = omega arith in
              ap (bit_of whole) (sym back) ∙ moved j long (omega arith)
              ∙ w.others j (elim h [
                | inl low ↦ inl (omega (arith, start))
                | inr high ↦ inr (omega (arith, start))
              ])
              ∙ ap (λ x. has_bit x (j % 8))
              (get_or-take k (drop a b) (j / 8) 0 (omega arith))
              ∙ bit_of-drop a b j ∙ ap (bit_of b) back
          | inr behind ↦ kept i long (inr (omega arith))
        ]
      ])
