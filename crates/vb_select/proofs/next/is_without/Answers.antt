use Rattle.std.proofs.Common.{◌≡◌, inl, inr, ℕ, ◌+◌, ◌-◌, ◌*◌, ◌/◌, ◌%◌, ◌^◌, ◌<◌, ◌≤◌, Bool, not}
use Rattle.std.proofs.Common.{List, sym, ap, ◌∙◌, subst, arith, zero-add}
use Rattle.std.specs.Int.{trailing_zeros, w64}
use Rattle.std.specs.Prelude.{◌↔◌, count_ones}
use Rattle.std.proofs.lemmas.Nat.{zero_from_ones}
use Rattle.std.proofs.lemmas.Bool.{cases_lt, eqb-true, eq-eqb, false≢true}
use Rattle.vb_bits.specs.Bits.{bit_of, bits, count}
use Rattle.vb_bits.specs.Digits.{has_bit, digits}
use Rattle.vb_bits.proofs.ReadLemmas.{digits_of_word}
use Rattle.vb_bits.proofs.DigitsLemmas.{count-digits_below}
use Rattle.vb_bits.proofs.WindowLemmas.{digits-clear}
use Rattle.vb_count.specs.Hits.{hits}
use Rattle.vb_walk.specs.Walks.{others}
use Rattle.vb_select.proofs.NearestLemmas.{Shows, Shows-shifted, shifted_fits, hit, lowest_one}
use Rattle.vb_select.proofs.NearestLemmas.{any_at, any_none}
use Rattle.vb_select.proofs.next.is_without.Goals as goal

-- the word at the front
front_shows : (v : Bool) (b : List ℕ) (o w x : ℕ) → digits w 0 64 ≡ bits b (8 * (o / 8)) 64
    → w < 2 ^ 64 → x ≡ others (not v) w → Shows v b o 0 (64 - o % 8) (x / 2 ^ (o % 8))
front_shows v b o w x read fits is =
    subst (λ y. Shows v b o 0 (64 - o % 8) (y / 2 ^ (o % 8))) (sym is)
    (Shows-shifted v b o 0 (o / 8) (o % 8) w read fits (omega arith))

-- a bit that it shows
shown_at : (v : Bool) (b : List ℕ) (o k w i : ℕ) → Shows v b o 0 k w → i < k
    → has_bit w i ≡ hit v (bit_of b (o + i))
shown_at v b o k w i shows l = shows i l ∙ ap (λ j. hit v (bit_of b (o + j))) (zero-add i)

-- none is v, if the word is 0
shown_none : (v : Bool) (b : List ℕ) (o n k w : ℕ) → Shows v b o 0 k w → w ≡ 0 → n ≤ k
    → count (hits v (bits b o n)) ≡ 0
shown_none v b o n k w shows off inside = any_none v b o n
    (λ i l. sym (shown_at v b o k w i shows (omega arith)) ∙ ap (λ x. has_bit x i) off
    ∙ digits-clear i)

-- whether no bit is v, by the lowest digit of a word that isn't 0
lowest_past : (v : Bool) (b : List ℕ) (o n k w : ℕ) → Shows v b o 0 k w → 0 < w → w < 2 ^ k
    → k ≤ 64 → (n ≤ trailing_zeros w64 w) ↔ (count (hits v (bits b o n)) ≡ 0)
lowest_past v b o n k w shows some small few =
    let low = lowest_one w k some small few in
    let t : ℕ = trailing_zeros w64 w in (
      λ past. any_none v b o n (λ i l. sym (shown_at v b o k w i shows (omega (arith, low.0)))
          ∙ low.2 i (omega arith)),
      λ none. elim (cases_lt t n) [
        | inl l ↦ absurd (omega (
          arith,
          none,
          any_at v b o n t l
              (sym (shown_at v b o k w t shows low.0) ∙ low.1),
        ))
        | inr past ↦ past
      ],
    )

pub returns-then-len-le64 : goal.returns-then-len-le64
unfolding lib.Count.ones
returns-then-len-le64 c =
    let w = c.read_matches in
    let ones = count-digits_below w.result c.args.len w.ensures.clear in
    let same = ap count w.ensures.digits in (
      λ t. let gone : w.result ≡ 0 = eqb-true _ _ t in
          sym same ∙ ones ∙ ap count_ones gone,
      λ none. eq-eqb _ _ (zero_from_ones w.result (sym ones ∙ same ∙ none)),
    )

pub returns-then-word-ne0 : goal.returns-then-word-ne0
returns-then-word-ne0 c =
    let b = c.args.bytes.now in let v = c.args.value in
    let o : ℕ = c.args.offset in let n : ℕ = c.args.len in
    let x = c.others in
    let w : ℕ = x.result / 2 ^ (o % 8) in
    let some : 0 < w = omega (arith, c.if-word-ne0.true) in
    let small = shifted_fits x.result (o % 8) x.type_inv (omega arith) in
    let past = lowest_past v b o n (64 - o % 8) w
    (front_shows v b o c.word_at.result x.result
    (digits_of_word b c.word_at.result (o / 8) c.word_at.ensures) c.word_at.type_inv x.ensures)
    some small (omega arith) in
    let low = lowest_one w (64 - o % 8) some small (omega arith) in (
      λ t. absurd (false≢true t),
      λ none. absurd (omega (arith, past.1 none, low.0, c.if-len-le64.false)),
    )

pub is_without_behind-requires-clause-none : goal.is_without_behind-requires-clause-none
is_without_behind-requires-clause-none c =
    let b = c.args.bytes.now in let v = c.args.value in let o : ℕ = c.args.offset in
    let x = c.others in
    shown_none v b o (64 - o % 8) (64 - o % 8) (x.result / 2 ^ (o % 8))
    (front_shows v b o c.word_at.result x.result (digits_of_word b c.word_at.result (o / 8)
    c.word_at.ensures) c.word_at.type_inv x.ensures) c.if-word-ne0.false (omega arith)
