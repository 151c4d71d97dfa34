-- Words of lists of truth values, and the bytes that they fill.
use Rattle.std.proofs.Common.{◌≡◌, ℕ, inl, inr, ◌+◌, ◌-◌, ◌/◌, ◌^◌, ◌≤◌, Bool, List, ◌++◌, length}
use Rattle.std.proofs.Common.{take, drop, sym, ap, ◌∙◌, arith, zero-add}
use Rattle.std.proofs.Math.Seq.{take-append_seam}
use Rattle.std.proofs.lemmas.List.{drop-drop, drop_at}
use Rattle.std.proofs.lemmas.List.{length-append, length-take-le, get_or_append_left, get_or-take}
use Rattle.std.proofs.lemmas.List.{get_or-append_right}
use Rattle.std.proofs.lemmas.Bool.{cases_lt}
use Rattle.vb_bits.specs.Writes.{Writes}
use Rattle.vb_bits.proofs.WritesLemmas.{Writes_by_bits, Writes-at}
use Rattle.vb_bits.specs.Bits.{bit_of, bits}
use Rattle.vb_bits.specs.Digits.{digits}
use Rattle.vb_bits.proofs.BitsLemmas.{take-bits}
use Rattle.vb_bits.proofs.DigitsLemmas.{length-digits, digits-add}
use Rattle.vb_bits.proofs.ShiftLemmas.{digits_shr}

-- if the digits of a word are the last 64 values, its last digits are the last values
pub last_values : (w r : ℕ) (l : List Bool) → 64 ≤ length l → r ≤ 64
    → digits w 0 64 ≡ drop (length l - 64) l → digits (w / 2 ^ (64 - r)) 0 r ≡ drop (length l - r) l
last_values w r l enough h e =
    let s : ℕ = 64 - r in
    let whole : 64 ≡ s + r = omega arith in
    let place : length l - 64 + s ≡ length l - r = omega arith in
    digits_shr w s r ∙ ap (λ a. digits w a r) (sym (zero-add s))
    ∙ sym (drop_at (digits w 0 s) (digits w (0 + s) r) s (length-digits w 0 s))
    ∙ ap (drop s) (sym (digits-add w 0 s r) ∙ ap (digits w 0) (sym whole) ∙ e)
    ∙ drop-drop s (length l - 64) l ∙ ap (λ k. drop k l) place

-- the first bits of a window
pub first_bits : (b : List ℕ) (l m : List Bool)
    → bits b 0 (length (l ++ m)) ≡ l ++ m → bits b 0 (length l) ≡ l
first_bits b l m e =
    let less : length l ≤ length (l ++ m) = omega (arith, length-append l m) in
    sym (take-bits b 0 (length (l ++ m)) (length l) less)
    ∙ ap (take (length l)) e ∙ take-append_seam l m

-- a window, and a second one that starts within it and doesn't end before it
pub Writes-over : (b c d : List ℕ) (p : ℕ) (l m : List Bool) → p ≤ length l
    → length l ≤ p + length m → Writes b c 0 l → Writes c d p m → Writes b d 0 (take p l ++ m)
Writes-over b c d p l m low high one two =
    let k : List Bool = take p l in
    let front : length k ≡ p = length-take-le p l low in
    let whole : length (k ++ m) ≡ p + length m = omega (arith, length-append k m, front) in
    Writes_by_bits b d 0 (k ++ m) (two.same_len ∙ one.same_len)
    (λ i v h. elim (cases_lt i p) [
      | inl before ↦
          two.others (0 + i) (inl (omega arith)) ∙ Writes-at b c 0 i l v one (omega arith)
          ∙ sym (get_or_append_left k m v i (omega arith) ∙ get_or-take p l i v before)
      | inr behind ↦
          let there : 0 + i ≡ p + (i - p) = omega arith in
          ap (bit_of d) there ∙ Writes-at c d p (i - p) m v two (omega arith)
          ∙ sym (get_or-append_right k m p i v front behind)
    ])
    (λ i h.
    two.others i (elim h [ inl under ↦ inl (omega arith) | inr over ↦ inr (omega (arith, whole)) ])
    ∙ one.others i (elim h [ inl under ↦ inl under | inr over ↦ inr (omega (arith, whole)) ]))
