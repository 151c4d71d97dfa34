use Rattle.std.proofs.Common.{◌≡◌, ℕ, List, ◌-◌, ◌*◌, ◌+◌, ◌%◌, ◌^◌, ◌≤◌, min, ap}
use Rattle.std.proofs.Common.{sym, ◌∙◌, arith, subst}
use Rattle.std.specs.Prelude.{bit_and, count_ones}
use Rattle.std.proofs.lemmas.Nat.{and_mask, mod_below, pow_pos}
use Rattle.vb_bits.specs.Bits.{bits, count}
use Rattle.vb_bits.specs.Digits.{digits}
use Rattle.vb_bits.proofs.ReadLemmas.{digits_cut}
use Rattle.vb_bits.proofs.DigitsLemmas.{count-digits_below}
use Rattle.vb_bits.proofs.ReadLemmas.{digits-bits, has_bit-bits}
use Rattle.vb_rank.proofs.count.front_ones_of_word.Goals as goal

-- the lowest bits of a word are the first bits of its bytes
front_digits : (b : List ℕ) (w o n : ℕ) → digits w 0 64 ≡ bits b o 64 → n ≤ 64
    → digits w 0 n ≡ bits b o n
front_digits b w o n full h =
    digits-bits b w o n (λ i k. has_bit-bits b w o 64 i full (omega arith))

-- the ones that a mask of k ones leaves
masked : (w k : ℕ) → count_ones (bit_and w (2 ^ k - 1)) ≡ count (digits w 0 k)
masked w k = ap count_ones (and_mask w k)
    ∙ sym (count-digits_below (w % 2 ^ k) k (mod_below w (2 ^ k) (pow_pos k)))
    ∙ ap count (digits_cut w k)

pub returns : goal.returns
returns c =
    let w : ℕ = c.full_word.result in
    let b : List ℕ = c.args.chunk.now in
    let k : ℕ = min (c.args.n - 64 * c.args.word) 64 in
    let place : 8 * (8 * c.args.word) + 0 ≡ 64 * c.args.word = omega arith in
    ap (λ m. count_ones (bit_and w m)) c.front_mask.ensures ∙ masked w k
    ∙ ap count (front_digits b w (64 * c.args.word) k
    (subst (λ o. digits w 0 64 ≡ bits b o 64) place c.full_word.ensures) (omega arith))
