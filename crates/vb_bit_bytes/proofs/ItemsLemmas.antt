-- The items of an iterator as digits of words.
use Rattle.std.proofs.Common.{◌≡◌, ℕ, ◌+◌, ◌-◌, ◌*◌, ◌≤◌, List, ◌++◌, length, take, sym, ap, ◌∙◌}
use Rattle.std.proofs.Common.{arith}
use Rattle.std.specs.Int.{w64, to_le_bytes}
use Rattle.std.proofs.Math.Seq.{take-append_seam, drop-append_seam}
use Rattle.vb_bits.specs.Bits.{bits}
use Rattle.vb_bits.specs.Digits.{digits}
use Rattle.vb_bits.proofs.BitsLemmas.{bits-add}
use Rattle.vb_bits.proofs.BytesLemmas.{bits-to_le_bytes}
use Rattle.vb_bits.proofs.DigitsLemmas.{digits-add, length-digits}
use Rattle.vb_bits.proofs.ReadLemmas.{bits_of_rest}
use Rattle.vb_bits.proofs.WindowLemmas.{bits-append, bits-take_bytes}

-- the first digits
pub take-digits : (w i n : ℕ) → i ≤ n → digits w 0 i ≡ take i (digits w 0 n)
take-digits w i n h =
    let whole : n ≡ i + (n - i) = omega arith in
    sym (ap (λ k. take i (digits w 0 k)) whole ∙ ap (take i) (digits-add w 0 i (n - i))
    ∙ ap (λ k. take k (digits w 0 i ++ digits w (0 + i) (n - i))) (sym (length-digits w 0 i))
    ∙ take-append_seam (digits w 0 i) (digits w (0 + i) (n - i)))

-- the first bytes of a word, appended to other bytes
pub bits-push_digits : (b c : List ℕ) (w n m : ℕ) → c ≡ b ++ take m (to_le_bytes w64 w)
    → n ≤ 8 * m → n ≤ 64 → bits c 0 (8 * length b + n) ≡ bits b 0 (8 * length b) ++ digits w 0 n
bits-push_digits b c w n m is within small =
    let x : List ℕ = take m (to_le_bytes w64 w) in
    let from : 0 + 8 * length b ≡ 8 * length b = omega arith in
    ap (λ l. bits l 0 (8 * length b + n)) is ∙ bits-add (b ++ x) 0 (8 * length b) n
    ∙ ap (λ l. l ++ bits (b ++ x) (0 + 8 * length b) n)
    (bits-append b x 0 (8 * length b) (omega arith))
    ∙ ap (λ l. bits b 0 (8 * length b) ++ l)
    (ap (λ o. bits (b ++ x) o n) from
    ∙ sym (bits_of_rest (b ++ x) (length b) n) ∙ ap (λ l. bits l 0 n) (drop-append_seam b x)
    ∙ bits-take_bytes m (to_le_bytes w64 w) 0 n (omega arith)
    ∙ bits-to_le_bytes w 0 n (omega arith))
