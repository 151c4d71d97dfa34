use Rattle.std.proofs.Common.{◌≡◌, ℕ, Bool, List, ◌+◌, ◌*◌, ◌<◌, ◌≤◌, ap, sym}
use Rattle.std.proofs.Common.{◌∙◌, arith, ⊎_elim}
use Rattle.std.proofs.lemmas.Bool.{cases_lt}
use Rattle.vb_bits.specs.Bits.{bits, count}
use Rattle.vb_bits.specs.Digits.{digits}
use Rattle.vb_count.specs.Hits.{hits}
use Rattle.vb_count.proofs.HitsLemmas.{count-hits-bits_none, count-hits-bits-le}
use Rattle.vb_count.proofs.HitsLemmas.{count-hits-bits_split}
use Rattle.vb_rank.proofs.select.find_word.Goals as goal
use Rattle.vb_rank.proofs.select.find_word.Goals.{then-seen-n, else-seen-n}

pub loop-k-init : goal.loop-k-init
loop-k-init c =
    let none = sym (count-hits-bits_none c.args.value c.args.chunk.now 0) in record {
      within = omega arith;
      low = omega arith;
      before = none;
      seen = none;
      word = c.word_of-word.ensures;
      high = λ past. absurd (omega (arith, past));
    }

-- the count of a longer front, by the count of its last word
few : (v : Bool) (b : List ℕ) (k ones : ℕ) (l : List Bool)
    → ones ≡ count l → l ≡ hits v (bits b (64 * k) 64)
    → count (hits v (bits b 0 (64 * (k + 1)))) ≡ count (hits v (bits b 0 (64 * k))) + ones
few v b k ones l counted is = omega (
  arith,
  count-hits-bits_split v b 0 (64 * k) (64 * (k + 1)) (64 * k) 64 (omega arith) (omega arith),
  counted,
  ap count is,
)

pub overflow_add-seen : goal.overflow_add-seen
overflow_add-seen c = record {
  fits = omega (
    arith,
    c.loop-k.invariant.seen,
    count-hits-bits-le c.args.value c.args.chunk.now 0 (64 * c.loop-k.k),
    c.digit_ones-seen.ensures.few,
  );
}

-- the word stays: it has more than the rank, or it is the one that was counted last
high_on : (v : Bool) (b : List ℕ) (k w w' n : ℕ) → w' ≡ w → w ≤ k
    → (w < k → n < count (hits v (bits b 0 (64 * (w + 1)))))
    → n < count (hits v (bits b 0 (64 * (k + 1))))
    → n < count (hits v (bits b 0 (64 * (w' + 1))))
high_on v b k w w' n same within before here =
    ⊎_elim
    (λ less. omega
    (arith, before less, ap (λ x. count (hits v (bits b 0 (64 * (x + 1))))) same))
    (λ (past : k ≤ w).
    let e : w' ≡ k = omega (arith, same, within, past) in
    omega (arith, here, ap (λ x. count (hits v (bits b 0 (64 * (x + 1))))) e))
    (cases_lt w k)

pub loop-k-preserved : goal.loop-k-preserved
loop-k-preserved c =
    let v : Bool = c.args.value in let b : List ℕ = c.args.chunk.now in let k : ℕ = c.loop-k.k in
    let more = few v b k c.digit_ones-seen.result _ c.digit_ones-seen.ensures.value
    c.word_of.ensures in
    let seen : c.loop-k.seen + c.digit_ones-seen.result
    ≡ count (hits v (bits b 0 (64 * (k + 1)))) = omega (arith, c.loop-k.invariant.seen, more) in
    elim c.if-seen-n.branch [
      | then-seen-n w ↦ record {
        within = omega (arith, w.at-is);
        low = omega (arith, w.before-is, w.if-seen-n.true);
        before = w.before-is ∙ seen
            ∙ ap (λ x. count (hits v (bits b 0 (64 * x)))) (sym w.at-is);
        seen = seen;
        word = ap (λ x. digits x 0 64) w.word-is ∙ w.word_of-word-then-seen-n.ensures
            ∙ ap (λ x. hits v (bits b (64 * x) 64)) (sym w.at-is);
        high = λ past. absurd (omega (arith, past, w.at-is));
      }
      | else-seen-n w ↦ record {
        within = omega (arith, w.at-is, c.loop-k.invariant.within);
        low = omega (arith, w.before-is, c.loop-k.invariant.low);
        before = w.before-is ∙ c.loop-k.invariant.before
            ∙ ap (λ x. count (hits v (bits b 0 (64 * x)))) (sym w.at-is);
        seen = seen;
        word = ap (λ x. digits x 0 64) w.word-is ∙ c.loop-k.invariant.word
            ∙ ap (λ x. hits v (bits b (64 * x) 64)) (sym w.at-is);
        high = λ past. high_on v b k c.loop-k.at c.if-seen-n.at c.args.n w.at-is
            (omega (arith, c.loop-k.invariant.within)) c.loop-k.invariant.high
            (omega (arith, seen, w.if-seen-n.false));
      }
    ]
