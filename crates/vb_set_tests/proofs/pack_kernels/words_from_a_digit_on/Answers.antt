use Rattle.std.proofs.Common.{◌≡◌, inl, inr, ℕ, zero, suc, ◌-◌, ◌/◌, ◌%◌, ◌≤◌, false, eqb}
use Rattle.std.proofs.Common.{List, [], ◌∷◌, refl, ap, ◌∙◌, arith}
use Rattle.std.specs.Prelude.{slice_index}
use Rattle.std.proofs.lemmas.Bool.{cases_lt}
use Rattle.std.proofs.lemmas.Nat.Bits.{bit_at_above}
use Rattle.vb_pack.specs.Digits.{has_bit}
use Rattle.vb_pack.specs.WordBits.{word_bit}
use Rattle.vb_set_tests.proofs.pack_kernels.words_from_a_digit_on.Goals as goal

abbrev words : List ℕ
words = 31 ∷ 0 ∷ []

none_behind : (k : ℕ) → slice_index words (suc k) ≡ 0
none_behind zero = refl
none_behind (suc k) = refl

clear_from : (i : ℕ) → 5 ≤ i → word_bit words i ≡ false
clear_from i h = elim (cases_lt i 64) [
  | inl low ↦
      let first : i / 64 ≡ 0 = omega (arith, low) in
      let place : i % 64 ≡ i = omega (arith, low) in
      ap (λ k. has_bit (slice_index words k) (i % 64)) first ∙ ap (has_bit 31) place
      ∙ ap (λ x. eqb x 1) (bit_at_above 31 5 i (omega arith) h)
  | inr high ↦
      let later : i / 64 ≡ suc (i / 64 - 1) = omega (arith, high) in
      ap (λ k. has_bit (slice_index words k) (i % 64)) later
      ∙ ap (λ x. has_bit x (i % 64)) (none_behind (i / 64 - 1))
      ∙ ap (λ x. eqb x 1) (bit_at_above 0 0 (i % 64) (omega arith) (omega arith))
]

pub pack_bools_into_words-requires-clause-clear : goal.pack_bools_into_words-requires-clause-clear
pack_bools_into_words-requires-clause-clear g c = clear_from
