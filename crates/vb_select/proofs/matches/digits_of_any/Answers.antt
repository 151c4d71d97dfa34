use Rattle.std.proofs.Common.{◌≡◌, inl, inr, ℕ, ◌+◌, ◌-◌, ◌*◌, ◌∙◌, ap, sym, arith}
use Rattle.std.proofs.lemmas.Bool.{cases_lt}
use Rattle.vb_bits.specs.Bits.{bit_of}
use Rattle.vb_bits.specs.Digits.{has_bit}
use Rattle.vb_bits.proofs.EqualLemmas.{or-zero}
use Rattle.vb_bits.proofs.ReadLemmas.{has_bit-bits, digits_of_word}
use Rattle.vb_bits.proofs.WindowLemmas.{digits-clear}
use Rattle.vb_count.proofs.HitsLemmas.{count-hits-bits_split}
use Rattle.vb_select.proofs.NearestLemmas.{hit, has_bit-others, hit_none, Shows, any_shown}
use Rattle.vb_select.proofs.matches.digits_of_any.Goals as goal

pub loop-k-init : goal.loop-k-init
loop-k-init c = record {
  none = λ _ i l. absurd (omega arith);
  some = λ l. absurd (omega arith);
}

pub loop-k-preserved : goal.loop-k-preserved
loop-k-preserved c =
    let b = c.args.bytes.now in let v = c.args.value in
    let k : ℕ = c.loop-k.k in
    let w = c.word_at in let x : ℕ = c.others-digits.result in
    let a : ℕ = c.args.at + 8 * k in
    let shows : Shows v b (8 * a) 0 64 x = λ i l.
    ap (λ y. has_bit y i) c.others-digits.ensures
    ∙ has_bit-others v w.result i w.type_inv l
    ∙ ap (hit v) (has_bit-bits b w.result (8 * a) 64 i (digits_of_word b w.result a w.ensures) l)
    ∙ ap (λ j. hit v (bit_of b (8 * a + j))) (let e : i ≡ 0 + i = omega arith in e) in
    let any = any_shown v b (8 * a) 64 x shows c.others-digits.type_inv (omega arith) in
    let more = count-hits-bits_split v b (8 * c.args.at) (64 * k) (64 * (k + 1)) (8 * a) 64
    (omega arith) (omega arith) in
    record {
      none = λ none i l.
          let both = (or-zero c.loop-k.digits x).0 none in
          elim (cases_lt i (64 * k)) [
            | inl before ↦ c.loop-k.invariant.none both.0 i before
            | inr here ↦
                let place : 8 * c.args.at + i ≡ 8 * a + (0 + (i - 64 * k)) = omega arith in
                hit_none v _ (ap (λ j. hit v (bit_of b j)) place
                ∙ sym (shows (i - 64 * k) (omega arith))
                ∙ ap (λ y. has_bit y (i - 64 * k)) both.1 ∙ digits-clear (i - 64 * k))
          ];
      some = λ some. elim (cases_lt 0 c.loop-k.digits) [
        | inl l ↦ omega (arith, more, c.loop-k.invariant.some l)
        | inr z ↦ elim (cases_lt 0 x) [
          | inl l ↦ omega (arith, more, any.0 l)
          | inr y ↦
              let none = (or-zero c.loop-k.digits x).1 (omega arith, omega arith) in
              absurd (omega (arith, some, none))
        ]
      ];
    }
