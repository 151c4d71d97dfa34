use Rattle.std.proofs.Common.{◌≡◌, ℕ, ◌-◌, ◌^◌, ◌<◌, ◌++◌, ◌∷◌, [], length, append_assoc}
use Rattle.std.proofs.Common.{lit<, sym, ap, subst, ◌∙◌, arith}
use mir.Val.{bool_byte}
use Rattle.std.specs.Int.Bits.{bit_and}
use Rattle.std.proofs.lemmas.List.{append-nil}
use Rattle.vb_bits.specs.Bits.{count}
use Rattle.vb_bits.specs.Digits.{digits}
use Rattle.vb_bits.proofs.DigitsLemmas.{digits_none}
use Rattle.vb_bits.proofs.PackedLemmas.{digits_packed, packed_below}
use Rattle.vb_walk.proofs.OnesLemmas.{lowest_below}
use Rattle.vb_filter.proofs.PackedDigits.{kept_digits}
use Rattle.vb_filter.proofs.PackedOnes.{kept_digits-zero, kept_digits-first, ones_so_far}
use Rattle.vb_filter.proofs.PackedOnes.{ones_inside}
use Rattle.vb_filter.proofs.digits.pack_ones.Goals as goal

pub loop-left-init : goal.loop-left-init
loop-left-init c = record {
  kept = ap (λ l. l ++ kept_digits c.args.mask c.args.word 0 64) (digits_none 0 0);
  clear = lit< tt;
}

pub loop-left-preserved : goal.loop-left-preserved
loop-left-preserved c =
    let word : ℕ = c.args.word in
    let left : ℕ = c.loop-left.left in
    let packed : ℕ = c.loop-left.packed in
    let n : ℕ = c.loop-left.n in
    let inv = c.loop-left.invariant in
    let some : 0 < left = omega (arith, c.loop-left-test.true) in
    let fits : left < 2 ^ 64 = omega arith in
    let within = ones_inside word packed n left c.args.mask some fits inv.kept in
    let bit : c.from.result ≡ bool_byte c.digit.result = c.from.ensures in
    let rest = kept_digits (bit_and left (left - 1)) word 0 64 in
    record {
      kept = rw (bit, digits_packed packed n c.digit.result within inv.clear)
          (append_assoc (digits packed 0 n) (c.digit.result ∷ []) rest
          ∙ ap (λ b. digits packed 0 n ++ b ∷ rest) c.digit.ensures
          ∙ ap (λ l. digits packed 0 n ++ l) (sym (kept_digits-first word left some fits))
          ∙ inv.kept);
      clear = rw bit (packed_below packed n c.digit.result within inv.clear);
    }

pub digit-requires : goal.digit-requires
digit-requires c =
    let left : ℕ = c.loop-left.left in
    let some : 0 < left = omega (arith, c.loop-left-test.true) in
    let fits : left < 2 ^ 64 = omega arith in
    lowest_below 64 left some fits (omega arith)

pub overflow_shl-packed : goal.overflow_shl-packed
overflow_shl-packed c =
    let left : ℕ = c.loop-left.left in
    let some : 0 < left = omega (arith, c.loop-left-test.true) in
    let fits : left < 2 ^ 64 = omega arith in
    ones_inside c.args.word c.loop-left.packed c.loop-left.n left c.args.mask some fits
    c.loop-left.invariant.kept

pub overflow_add-n : goal.overflow_add-n
overflow_add-n c =
    let left : ℕ = c.loop-left.left in
    let some : 0 < left = omega (arith, c.loop-left-test.true) in
    let fits : left < 2 ^ 64 = omega arith in
    omega (
      arith,
      ones_inside c.args.word c.loop-left.packed c.loop-left.n left c.args.mask some fits
          c.loop-left.invariant.kept,
    )

pub returns : goal.returns
returns c =
    let word : ℕ = c.args.word in
    let left : ℕ = c.loop-left.left in
    let packed : ℕ = c.loop-left.packed in
    let n : ℕ = c.loop-left.n in
    let inv = c.loop-left.invariant in
    let none = kept_digits-zero word left (omega (arith, c.loop-left-test.false)) in
    let all : n ≡ count (digits c.args.mask 0 64) = omega (
      arith,
      ones_so_far word packed n left c.args.mask inv.kept,
      ap length none,
    ) in
    record {
      kept = ap (digits packed 0) (sym all) ∙ sym (append-nil (digits packed 0 n))
          ∙ ap (λ l. digits packed 0 n ++ l) (sym none) ∙ inv.kept;
      clear = subst (λ k. packed < 2 ^ k) all inv.clear;
    }
