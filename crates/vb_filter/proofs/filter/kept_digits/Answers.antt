use Rattle.std.proofs.Common.{◌≡◌, ℕ, ◌+◌, ◌^◌, ◌<◌, sym, ap, subst, ◌∙◌, arith}
use Rattle.std.specs.Prelude.{count_ones, slice_range}
use Rattle.std.proofs.lemmas.Nat.{ones_le_self}
use Rattle.vb_bits.specs.Bits.{count}
use Rattle.vb_bits.specs.Digits.{digits}
use Rattle.vb_bits.specs.Kept.{kept_by}
use Rattle.vb_bits.proofs.DigitsLemmas.{digits_none, count-digits_below}
use Rattle.vb_view.specs.View.{bits_of}
use Rattle.vb_filter.proofs.FilteredBits.{ones-of, kept_by-of, kept_by-zero}
use Rattle.vb_filter.proofs.filter.kept_digits.Goals as goal

pub returns-then-keep-eq0-clause-count : goal.returns-then-keep-eq0-clause-count
returns-then-keep-eq0-clause-count c =
    let keep : ℕ = c.view_word-keep.result in
    omega (
      arith,
      ones-of (bits_of c.args.mask) keep c.args.start c.args.n c.view_word-keep.ensures.clear
          c.view_word-keep.ensures.digits,
      ones_le_self keep,
      c.if-keep-eq0.true,
    )

pub returns-then-keep-eq0-clause-kept : goal.returns-then-keep-eq0-clause-kept
returns-then-keep-eq0-clause-kept c =
    let a = c.args.start in
    let n = c.args.n in
    let values = slice_range (bits_of c.args.values) a (a + n) in
    digits_none 0 0
    ∙ sym (ap (λ l. kept_by l values) (sym c.view_word-keep.ensures.digits)
    ∙ kept_by-zero c.view_word-keep.result n values c.if-keep-eq0.true)

pub returns-clause-count : goal.returns-clause-count
returns-clause-count c =
    sym (ones-of (bits_of c.args.mask) c.view_word-keep.result c.args.start c.args.n
    c.view_word-keep.ensures.clear c.view_word-keep.ensures.digits)

pub returns-clause-kept : goal.returns-clause-kept
returns-clause-kept c =
    let keep : ℕ = c.view_word-keep.result in
    let many : count (digits keep 0 64) ≡ count_ones keep =
    count-digits_below keep 64 (omega arith) in
    ap (digits c.pack_digits-packed.result 0) (sym many) ∙ c.pack_digits-packed.ensures.kept
    ∙ kept_by-of (bits_of c.args.mask) (bits_of c.args.values) keep c.view_word.result
    c.args.start c.args.n c.view_word-keep.ensures.clear c.requires.few
    c.view_word-keep.ensures.digits c.view_word.ensures.digits

pub returns-clause-clear : goal.returns-clause-clear
returns-clause-clear c =
    let keep : ℕ = c.view_word-keep.result in
    subst (λ k. c.pack_digits-packed.result < 2 ^ k) (count-digits_below keep 64 (omega arith))
    c.pack_digits-packed.ensures.clear
