use Rattle.std.proofs.Common.{◌≡◌, ℕ, ◌++◌, length, take, sym, ap, ◌∙◌, arith}
use Rattle.std.proofs.lemmas.Slice.{take-put_mid, drop-put_mid}
use Rattle.vb_bits.specs.Digits.{digits}
use Rattle.vb_bits.specs.Kept.{kept_by}
use Rattle.vb_bits.proofs.DigitsLemmas.{length-digits, count-digits_below}
use Rattle.vb_walk.proofs.WordOnes.{kept_all}
use Rattle.vb_filter.proofs.filter_values.put_word.Goals as goal

pub returns-then-count-values-clause-kept : goal.returns-then-count-values-clause-kept
returns-then-count-values-clause-kept g c =
    let values = c.args.values.now in
    let n : ℕ = length values in
    let len : ℕ = c.args.len in
    let keep : ℕ = c.args.keep in
    let out = c.args.out.now in
    let ys = c.copy_from_slice.new.self in
    let full = count-digits_below keep n c.requires.clear in
    let all : ys ≡ kept_by (digits keep 0 n) values =
    c.copy_from_slice.ensures.after ∙ sym (kept_all (digits keep 0 n) values
    (length-digits keep 0 n) (omega (arith, full, length-digits keep 0 n))) in
    record {
      front = take-put_mid len _ out ys _ (omega (arith, ap length all)) (omega arith)
          ∙ ap (λ l. take len out ++ l) all;
      behind = drop-put_mid len _ out ys _ (omega (arith, ap length all)) (omega arith)
          (omega (arith, ap length c.copy_from_slice.ensures.after));
    }
