-- Windows of other bytes, appended to bits.
use Rattle.std.proofs.Common.{◌≡◌, inl, inr, ℕ, ◌+◌, ◌-◌, ◌*◌, ◌/◌, ◌%◌, ◌<◌, ◌≤◌, Bool, List, ◌++◌}
use Rattle.std.proofs.Common.{length, get_or, drop, refl, sym, ap, ◌∙◌, arith}
use Rattle.std.specs.Int.{w64, to_le_bytes}
use Rattle.std.specs.Prelude.{slice_range}
use Rattle.std.proofs.Math.Seq.{drop-append_seam}
use Rattle.std.proofs.lemmas.Bool.{cases_lt}
use Rattle.std.proofs.lemmas.List.{length-append, get_or-take, get_or-drop, get_or-append_right}
use Rattle.vb_bits.specs.Bits.{bit_of, bits}
use Rattle.vb_bits.specs.Digits.{digits, has_bit}
use Rattle.vb_bits.specs.Writes.{Writes, extension}
use Rattle.vb_bits.proofs.BitsLemmas.{length-bits, at-bits}
use Rattle.vb_bits.proofs.BytesLemmas.{bits-to_le_bytes}
use Rattle.vb_bits.proofs.DigitsLemmas.{length-digits}
use Rattle.vb_bits.proofs.ReadLemmas.{bits_of_rest}
use Rattle.vb_bits.proofs.WindowLemmas.{bit_of-append}
use Rattle.vb_bits.proofs.WritesLemmas.{Writes-at, Writes_behind}

-- bytes are appended, and a window that ends in them is written
pub Writes-pushed : (b x more c : List ℕ) (o : ℕ) (m : List Bool) → more ≡ b ++ x → o ≤ 8 * length b
    → 8 * length b ≤ o + length m → Writes more c o m → Writes (extension b c) c o m
Writes-pushed b x more c o m is low high w =
    Writes_behind b c o m (omega (arith, w.same_len, ap length is, length-append b x)) low high
    (λ i h. w.others i (inl h) ∙ ap (λ y. bit_of y i) is ∙ bit_of-append b x i (omega arith))
    (λ i d h. Writes-at more c o i m d w h)

-- bytes of a source are appended, and the bits before them are written
pub Writes-pushed_bytes : (b source more c : List ℕ) (o s n t from end : ℕ)
    → more ≡ b ++ slice_range source from end → o + t ≡ 8 * length b → s + t ≡ 8 * from
    → t ≤ n → o + n ≤ 8 * (length b + (end - from)) → end ≤ length source → from ≤ end
    → Writes more c o (bits source s t) → Writes (extension b c) c o (bits source s n)
Writes-pushed_bytes b source more c o s n t from end is at place some enough within order w =
    let x : List ℕ = slice_range source from end in
    let part : length (bits source s t) ≡ t = length-bits source s t in
    let all : length (bits source s n) ≡ n = length-bits source s n in
    Writes_behind b c o (bits source s n)
    (omega (arith, w.same_len, ap length is, length-append b x)) (omega arith) (omega arith)
    (λ i h. w.others i (inl h) ∙ ap (λ y. bit_of y i) is ∙ bit_of-append b x i (omega arith))
    (λ i d h.
    let low : i < n = omega arith in
    elim (cases_lt i t) [
      | inl inside ↦ Writes-at more c o i (bits source s t) d w (omega arith)
          ∙ at-bits source s t i d inside
      | inr past ↦
          let j : ℕ = (o + i) / 8 - length b in
          let byte : from + j ≡ (s + i) / 8 = omega arith in
          let digit : (o + i) % 8 ≡ (s + i) % 8 = omega arith in
          w.others (o + i) (inr (omega arith)) ∙ ap (λ y. bit_of y (o + i)) is
          ∙ ap (λ y. has_bit y ((o + i) % 8))
          (get_or-append_right b x (length b) ((o + i) / 8) 0 refl (omega arith)
          ∙ get_or-take (end - from) (drop from source) j 0 (omega arith)
          ∙ get_or-drop from source j 0 ∙ ap (λ k. get_or source k 0) byte)
          ∙ ap (has_bit (get_or source ((s + i) / 8) 0)) digit
    ]
    ∙ sym (at-bits source s n i d low))

-- the bytes of a word are appended, and so are its digits
pub Writes-pushed_word : (b c : List ℕ) (w : ℕ) → c ≡ b ++ to_le_bytes w64 w
    → Writes (extension b c) c (8 * length b) (digits w 0 64)
Writes-pushed_word b c w is =
    let x : List ℕ = to_le_bytes w64 w in
    let o : ℕ = 8 * length b in
    let long : length (digits w 0 64) ≡ 64 = length-digits w 0 64 in
    let rest : bits c o 64 ≡ digits w 0 64 =
    ap (λ l. bits l o 64) is ∙ sym (bits_of_rest (b ++ x) (length b) 64)
    ∙ ap (λ l. bits l 0 64) (drop-append_seam b x) ∙ bits-to_le_bytes w 0 64 (omega arith) in
    Writes_behind b c o (digits w 0 64) (omega (arith, ap length is, length-append b x))
    (omega arith) (omega arith)
    (λ i h. ap (λ y. bit_of y i) is ∙ bit_of-append b x i h)
    (λ i d h. sym (at-bits c o 64 i d (omega (arith, h, long))) ∙ ap (λ l. get_or l i d) rest)
