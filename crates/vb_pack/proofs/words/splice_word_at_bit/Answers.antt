use Rattle.std.proofs.Common.{◌≡◌, ◌≢◌, ℕ, ◌+◌, ◌-◌, ◌*◌, ◌/◌, ◌%◌, ◌^◌, ◌<◌, inl, inr, set, get_or}
use Rattle.std.proofs.Common.{get_or-set_same, get_or-set_other, length, length-set, sym, ap, ◌∙◌}
use Rattle.std.proofs.Common.{arith}
use Rattle.std.proofs.Math.Nat.{div-eq_of_lt}
use Rattle.std.specs.Int.Bits.{bit_or}
use Rattle.vb_bits.specs.Digits.{has_bit}
use Rattle.vb_bits.proofs.WindowLemmas.{digits-clear}
use Rattle.vb_pack.proofs.SpliceLemmas.{WritesWords_splice}
use Rattle.vb_pack.proofs.words.splice_word_at_bit.Goals as goal
use Rattle.vb_pack.proofs.words.splice_word_at_bit.Goals.{
  else-shift-ne0-via-then-shift-ne0+else-word-shift-ne0,
}
use Rattle.vb_pack.proofs.words.splice_word_at_bit.Goals.{else-shift-ne0-via-else-shift-ne0}

pub returns-then-word-shift-ne0 : goal.returns-then-word-shift-ne0
returns-then-word-shift-ne0 c =
    let b = c.args.words.now in
    let k : ℕ = c.args.at / 64 in
    let s : ℕ = c.args.at % 64 in
    let w : ℕ = c.args.word in
    let joined : ℕ = bit_or (get_or b k 0) (w * 2 ^ s % 2 ^ 64) in
    let high : ℕ = w / 2 ^ (64 - s) in
    let one = set b k joined in
    let there : k + 1 < length b = elim c.requires.room [
      | inl few ↦ absurd (c.if-word-shift-ne0.true (div-eq_of_lt few))
      | inr room ↦ room
    ] in
    let long : length one ≡ length b = length-set b k joined in
    let apart : k ≢ k + 1 = omega arith in
    WritesWords_splice b (set one (k + 1) high) c.args.at w (omega arith)
    (record {
      same_len = length-set one (k + 1) high ∙ long;
      first = get_or-set_other one (k + 1) k high 0 apart
          ∙ get_or-set_same b k joined 0 c.requires.place;
      next = λ j h. ap (λ x. has_bit x j) (get_or-set_same one (k + 1) high 0 (omega arith));
      others = λ j not_first not_next. get_or-set_other one (k + 1) j high 0 not_next
          ∙ get_or-set_other b k j joined 0 not_first;
    })
    c.requires.clear

pub returns-else-shift-ne0 : goal.returns-else-shift-ne0
returns-else-shift-ne0 c =
    let b = c.args.words.now in
    let k : ℕ = c.args.at / 64 in
    let s : ℕ = c.args.at % 64 in
    let w : ℕ = c.args.word in
    let joined : ℕ = bit_or (get_or b k 0) (w * 2 ^ s % 2 ^ 64) in
    let none : w / 2 ^ (64 - s) ≡ 0 = elim c.else-shift-ne0.branch [
      | else-shift-ne0-via-then-shift-ne0+else-word-shift-ne0 v ↦ v.if-word-shift-ne0.false
      | else-shift-ne0-via-else-shift-ne0 v ↦
          let size : 64 - s ≡ 64 = let e : s ≡ 0 = v.if-shift-ne0.false in omega arith in
          let small : w < 2 ^ 64 = omega arith in
          ap (λ n. w / 2 ^ n) size ∙ div-eq_of_lt small
    ] in
    let apart : k + 1 ≢ k = omega arith in
    WritesWords_splice b (set b k joined) c.args.at w (omega arith)
    (record {
      same_len = length-set b k joined;
      first = get_or-set_same b k joined 0 c.requires.place;
      next = λ j h.
          let word : (64 * (k + 1) + j) / 64 ≡ k + 1 = omega arith in
          let place : (64 * (k + 1) + j) % 64 ≡ j = omega arith in
          ap (λ x. has_bit x j) (get_or-set_other b k (k + 1) joined 0 apart)
          ∙ sym (ap (λ i. has_bit (get_or b i 0) ((64 * (k + 1) + j) % 64)) word
          ∙ ap (has_bit (get_or b (k + 1) 0)) place)
          ∙ c.requires.clear (64 * (k + 1) + j) (omega arith)
          ∙ sym (ap (λ x. has_bit x j) none ∙ digits-clear j);
      others = λ j not_first not_next. get_or-set_other b k j joined 0 not_first;
    })
    c.requires.clear
