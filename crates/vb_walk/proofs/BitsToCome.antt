-- Windows without their first or last bit.
use Rattle.std.proofs.Common.{◌≡◌, ℕ, suc, ◌+◌, ◌-◌, ◌<◌, ◌≤◌, List, [], ◌∷◌, ◌++◌, ap, ◌∙◌, arith}
use Rattle.vb_bits.specs.Bits.{bit_of, bits}
use Rattle.vb_bits.proofs.BitsLemmas.{length-bits, bits_none, bits_more, bits-add}

-- the first bit
pub bits_first : (b : List ℕ) (s e : ℕ)
    → s < e → bits b s (e - s) ≡ bit_of b s ∷ bits b (s + 1) (e - (s + 1))
unfolding bits
bits_first b s e h =
    let size : e - s ≡ suc (e - (s + 1)) = omega arith in
    ap (bits b s) size

-- the last bit
pub bits_last : (b : List ℕ) (s e : ℕ)
    → s < e → bits b s (e - s) ≡ bits b s (e - 1 - s) ++ bit_of b (e - 1) ∷ []
bits_last b s e h =
    let size : e - s ≡ e - 1 - s + 1 = omega arith in
    let place : s + (e - 1 - s) ≡ e - 1 = omega arith in
    ap (bits b s) size
    ∙ bits_more b s (e - 1 - s) ∙ ap (λ i. bits b s (e - 1 - s) ++ bit_of b i ∷ []) place

-- no bits
pub bits_over : (b : List ℕ) (s e : ℕ) → e ≤ s → bits b s (e - s) ≡ []
bits_over b s e h = let none : e - s ≡ 0 = omega arith in ap (bits b s) none ∙ bits_none b s

-- ---- for `#[tactic(auto, using(..))]`
pub ruleset bits_to_come = (length-bits, bits_first, bits_last, bits_over)
