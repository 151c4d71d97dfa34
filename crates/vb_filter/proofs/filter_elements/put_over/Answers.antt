use Rattle.std.proofs.Common.{◌≡◌, ℕ, ◌+◌, ◌-◌, ◌*◌, ◌/◌, ◌%◌, ◌^◌, ◌<◌, ◌≤◌, ◌++◌}
use Rattle.std.proofs.Common.{take, refl, sym, ap, ◌∙◌, arith, append_assoc, zero-add}
use Rattle.std.specs.Prelude.{count_ones, slice_range}
use Rattle.std.specs.Int.Bits.{bit_and}
use Rattle.std.proofs.lemmas.List.{append-nil, length-take-le, take_all}
use Rattle.std.proofs.lemmas.Nat.{and_mask, and_le_r, shr-shr}
use Rattle.vb_bits.specs.Bits.{count}
use Rattle.vb_bits.specs.Digits.{digits}
use Rattle.vb_bits.specs.Kept.{kept_by}
use Rattle.vb_bits.proofs.DigitsLemmas.{digits-add, digits_part, digits_none, length-digits}
use Rattle.vb_bits.proofs.DigitsLemmas.{count-digits_below, count-digits-add, count-digits_none}
use Rattle.vb_bits.proofs.KeptLemmas.{kept_by-append}
use Rattle.vb_filter.proofs.ElementsLemmas.{drop_further}
use Rattle.vb_filter.proofs.FilteredBits.{front-add}
use Rattle.vb_filter.proofs.filter_elements.put_over.Goals as goal

pub loop-k-init : goal.loop-k-init
loop-k-init g c =
    let keep : ℕ = c.args.keep in
    let front = take c.args.len c.args.out.now in
    record {
      len = refl;
      end = omega (arith, count-digits_none keep 0);
      left = omega arith;
      front = sym (ap (λ d. front ++ kept_by d (take 0 c.args.values.now)) (digits_none keep 0)
          ∙ append-nil front);
      behind = refl;
    }

-- the next 16 bits of those that are left
module _ (keep left k : ℕ) (at : left ≡ keep / 2 ^ (16 * k)) where
  part_digits : digits (bit_and left 65535) 0 16 ≡ digits keep (16 * k) 16
  part_digits =
      ap (λ x. digits x 0 16) (and_mask left 16 ∙ ap (λ x. x % 2 ^ 16) at)
      ∙ digits_part keep (16 * k) 16

  part_small : bit_and left 65535 < 2 ^ 16
  part_small = omega (arith, and_le_r left 65535)

  part_ones : count_ones (bit_and left 65535) ≡ count (digits keep (16 * k) 16)
  part_ones = sym (count-digits_below (bit_and left 65535) 16 part_small) ∙ ap count part_digits

  ones_next : count (digits keep 0 (16 * (k + 1)))
      ≡ count (digits keep 0 (16 * k)) + count_ones (bit_and left 65535)
  ones_next =
      let next : 16 * (k + 1) ≡ 16 * k + 16 = omega arith in
      let place : 0 + 16 * k ≡ 16 * k = zero-add (16 * k) in
      omega (
        arith,
        ap (λ n. count (digits keep 0 n)) next,
        count-digits-add keep 0 (16 * k) 16,
        ap (λ a. count (digits keep a 16)) place,
        part_ones,
      )

ones_before : (keep k : ℕ) → keep < 2 ^ 64 → k ≤ 4
    → count (digits keep 0 (16 * k)) ≤ count_ones keep
ones_before keep k fits inside =
    let all : 64 ≡ 16 * k + (64 - 16 * k) = omega arith in
    omega (
      arith,
      count-digits_below keep 64 fits,
      ap (λ n. count (digits keep 0 n)) all,
      count-digits-add keep 0 (16 * k) (64 - 16 * k),
    )

pub loop-k-preserved : goal.loop-k-preserved
loop-k-preserved g c =
    let values = c.args.values.now in
    let keep : ℕ = c.args.keep in
    let k : ℕ = c.loop-k.k in
    let left : ℕ = c.loop-k.left in
    let len : ℕ = c.args.len in
    let old = c.args.out.now in
    let mid = c.loop-k.out in
    let new = c.put_sixteen.new.out in
    let inv = c.loop-k.invariant in
    let part : ℕ = bit_and left 65535 in
    let next : 16 * (k + 1) ≡ 16 * k + 16 = omega arith in
    let place : 0 + 16 * k ≡ 16 * k = zero-add (16 * k) in
    let chunk = slice_range values (16 * k) (16 * k + 16) in
    let before = kept_by (digits keep 0 (16 * k)) (take (16 * k) values) in
    let fits : keep < 2 ^ 64 = omega arith in
    let more : kept_by (digits keep 0 (16 * (k + 1))) (take (16 * (k + 1)) values)
    ≡ before ++ kept_by (digits keep (16 * k) 16) chunk =
    ap (λ n. kept_by (digits keep 0 n) (take n values)) next
    ∙ ap (λ l. kept_by l (take (16 * k + 16) values)) (digits-add keep 0 (16 * k) 16)
    ∙ ap (kept_by (digits keep 0 (16 * k) ++ digits keep (0 + 16 * k) 16))
    (front-add values (16 * k) 16)
    ∙ kept_by-append (digits keep 0 (16 * k)) (digits keep (0 + 16 * k) 16)
    (take (16 * k) values) chunk
    (length-digits keep 0 (16 * k)
    ∙ sym (length-take-le (16 * k) values (omega (arith, c.requires.long))))
    ∙ ap (λ a. before ++ kept_by (digits keep a 16) chunk) place in
    record {
      len = c.put_sixteen.ensures.len ∙ inv.len;
      end = omega (arith, inv.end, ones_next keep left k inv.left);
      left = ap (λ x. x / 2 ^ 16) inv.left ∙ shr-shr keep (16 * k) 16
          ∙ ap (λ n. keep / 2 ^ n) (sym next);
      front = c.put_sixteen.ensures.front
          ∙ ap (λ l. l ++ kept_by (digits part 0 16) chunk) inv.front
          ∙ append_assoc (take len old) before (kept_by (digits part 0 16) chunk)
          ∙ ap (λ d. take len old ++ (before ++ kept_by d chunk)) (part_digits keep left k inv.left)
          ∙ ap (λ l. take len old ++ l) (sym more);
      behind = drop_further new mid (c.loop-k.end + count_ones part + 4)
          (len + count_ones keep + 4)
          (omega (
            arith,
            inv.end,
            ones_next keep left k inv.left,
            ones_before keep (k + 1) fits (omega (arith, c.loop-k-test.true)),
          ))
          c.put_sixteen.ensures.behind ∙ inv.behind;
    }

pub put_sixteen-requires-clause-room : goal.put_sixteen-requires-clause-room
put_sixteen-requires-clause-room g c =
    let inv = c.loop-k.invariant in
    let keep : ℕ = c.args.keep in
    omega (
      arith,
      inv.len,
      inv.end,
      c.requires.room,
      ones_next keep c.loop-k.left c.loop-k.k inv.left,
      ones_before keep (c.loop-k.k + 1) (omega arith) (omega (arith, c.loop-k-test.true)),
    )

pub returns-clause-front : goal.returns-clause-front
returns-clause-front g c =
    let inv = c.loop-k.invariant in
    let keep : ℕ = c.args.keep in
    let values = c.args.values.now in
    let end : 16 * c.loop-k.k ≡ 64 = omega arith in
    let all = count-digits_below keep 64 (omega arith) in
    let here : c.args.len + count_ones keep ≡ c.loop-k.end = omega (
      arith,
      inv.end,
      ap (λ n. count (digits keep 0 n)) end,
      all,
    ) in
    ap (λ n. take n c.loop-k.out) here ∙ inv.front
    ∙ ap (λ n. take c.args.len c.args.out.now ++ kept_by (digits keep 0 n) (take n values)) end
    ∙ ap (λ l. take c.args.len c.args.out.now ++ kept_by (digits keep 0 64) l)
    (take_all 64 values (omega (arith, c.requires.long)))

pub overflow_add-end : goal.overflow_add-end
overflow_add-end g c =
    let inv = c.loop-k.invariant in
    let keep : ℕ = c.args.keep in
    let k : ℕ = c.loop-k.k in
    omega (
      arith,
      inv.len,
      inv.end,
      c.requires.room,
      ones_next keep c.loop-k.left k inv.left,
      ones_before keep (k + 1) (omega arith) (omega (arith, c.loop-k-test.true)),
      c.loop-k.auto.out,
    )
