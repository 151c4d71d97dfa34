use Rattle.std.proofs.Common.{◌≡◌, ℕ, ◌+◌, ◌≤◌, ◌∷◌, length, take, drop, ap, sym, ◌∙◌, arith}
use Rattle.std.specs.Prelude.{count_ones}
use Rattle.vb_bits.specs.Digits.{digits}
use Rattle.vb_bits.specs.Kept.{kept_by}
use Rattle.vb_bits.proofs.DigitsLemmas.{length-digits, count-digits_below}
use Rattle.vb_walk.proofs.WordOnes.{length-kept_by_any}
use Rattle.vb_filter.proofs.ElementsLemmas.{before_four, from_four, four_there}
use Rattle.vb_filter.proofs.filter_elements.put_fours.Goals as goal

pub returns : goal.returns
returns g c =
    let len : ℕ = c.args.len in
    let keep : ℕ = c.args.keep in
    let values = c.args.values.now in
    let old = c.args.out.now in
    let mid = c.put_over.new.out in
    let new = c.write_four.new.out in
    let end : ℕ = len + count_ones keep in
    let a = c.index-out-end.result in
    let b = c.index-out-end-2.result in
    let d = c.index-out-end-3.result in
    let e = c.index-out-end-4.result in
    let over = c.put_over.ensures in
    let kept = kept_by (digits keep 0 64) values in
    let many : length kept ≡ count_ones keep =
    length-kept_by_any (digits keep 0 64) values
    (length-digits keep 0 64 ∙ sym c.requires.long)
    ∙ count-digits_below keep 64 (omega arith) in
    let at : len + length kept ≡ end = ap (λ n. len + n) many in
    let room : end + 4 ≤ length mid = omega (arith, over.len, c.requires.room) in
    record {
      front = ap (λ n. take n new) at
          ∙ before_four mid new end a b d e room c.write_four.ensures ∙ over.front;
      behind = ap (λ n. drop n new) at
          ∙ from_four mid new end a b d e room c.write_four.ensures
          ∙ ap (λ l. a ∷ b ∷ d ∷ e ∷ l) over.behind
          ∙ sym (four_there old end a b d e c.requires.room c.index-out-end.is
          c.index-out-end-2.is c.index-out-end-3.is c.index-out-end-4.is)
          ∙ sym (ap (λ n. drop n old) at);
    }
