use Rattle.std.proofs.Common.{◌≡◌, ◌+◌, ◌*◌, ◌/◌, ◌%◌, ap, arith, ◌∙◌}
use Rattle.vb_pair.specs.Merged.{merged_ones}
use Rattle.vb_pair.proofs.count_merged.count_blocks.Goals as goal

pub returns-then-r-eq0 : goal.returns-then-r-eq0
returns-then-r-eq0 g c =
    let from : 8 * (c.args.r / 8) ≡ c.args.r = omega arith in
    c.total.ensures ∙ c.sum_blocks.ensures
    ∙ ap (λ p. merged_ones g.M.Merge.bit c.args.left.now (8 * c.args.l) c.args.right.now p
    (256 * c.args.n)) from

pub returns-else-r-eq0 : goal.returns-else-r-eq0
returns-else-r-eq0 g c =
    let from : 8 * (c.args.r / 8) + c.args.r % 8 ≡ c.args.r = omega arith in
    c.total-else-r-eq0.ensures ∙ c.sum_shifted_blocks.ensures
    ∙ ap (λ p. merged_ones g.M.Merge.bit c.args.left.now (8 * c.args.l) c.args.right.now p
    (256 * c.args.n)) from
