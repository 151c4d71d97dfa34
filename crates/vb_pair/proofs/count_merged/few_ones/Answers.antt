use Rattle.std.proofs.Common.{◌≡◌, ap, sym, arith, ◌∙◌}
use Rattle.std.specs.Prelude.{count_ones}
use Rattle.vb_bits.specs.Bits.{count}
use Rattle.vb_bits.proofs.DigitsLemmas.{count-digits_below}
use Rattle.vb_pair.specs.Merged.{merged_ones}
use Rattle.vb_pair.proofs.MergedLemmas.{ones_of_merged, merged_ones-le, merged_ones_none}
use Rattle.vb_pair.proofs.count_merged.few_ones.Given.{Over}
use Rattle.vb_pair.proofs.count_merged.few_ones.Goals as goal
use Rattle.vb_pair.proofs.count_merged.few_ones.Goals.{After-low_digits}

pub returns-then-len-eq0-clause-value : goal.returns-then-len-eq0-clause-value
returns-then-len-eq0-clause-value g c =
    let f = g.M.Merge.bit in let a = c.args.left.now in let b = c.args.right.now in
    omega (
      arith,
      ap (λ n. merged_ones f a c.args.l b c.args.r n) c.if-len-eq0.true,
      merged_ones_none f a b c.args.l c.args.r,
    )

-- the counted digits
counted : (g : Over) (c : After-low_digits g) → count_ones c.low_digits.result
    ≡ merged_ones g.M.Merge.bit c.args.left.now c.args.l c.args.right.now c.args.r c.args.len
counted g c =
    sym (count-digits_below c.low_digits.result c.args.len c.low_digits.ensures.clear)
    ∙ ap count c.low_digits.ensures.digits
    ∙ ones_of_merged g.M.Merge.bit c.args.left.now c.args.right.now _ _ c.args.len _ _ _
    c.requires.in_word c.read_short.ensures.digits c.read_short-2.ensures.digits
    c.word-word.ensures

pub returns-clause-value : goal.returns-clause-value
returns-clause-value g c = omega (arith, counted g c)

pub returns-clause-few : goal.returns-clause-few
returns-clause-few g c = omega (
  arith,
  counted g c,
  merged_ones-le g.M.Merge.bit c.args.left.now c.args.right.now c.args.l c.args.r c.args.len,
)
