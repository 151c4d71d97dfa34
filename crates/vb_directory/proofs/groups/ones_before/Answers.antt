use Rattle.std.proofs.Common.{◌≡◌, ℕ, List, ◌/◌, ◌%◌, ◌∙◌, ap, arith}
use Rattle.vb_directory.specs.Counts.{count_in_group}
use Rattle.vb_directory.proofs.CountsLemmas.{ones-of_group, number-of_first}
use Rattle.vb_directory.proofs.groups.ones_before.Goals as goal

pub returns-then-block-lt-GROUP_BLOCKS-clause-value
    : goal.returns-then-block-lt-GROUP_BLOCKS-clause-value
returns-then-block-lt-GROUP_BLOCKS-clause-value g c = λ l p size.
    let e : List ℕ = (g.S.ProbeGroups.seen c.args.groups.now).entries in
    c.within_first.ensures.value ∙ number-of_first l e c.args.block p
    (omega (arith, c.requires.block, size)) (omega (arith, c.if-block-lt-GROUP_BLOCKS.true))

pub returns-then-place-eq0-clause-value : goal.returns-then-place-eq0-clause-value
returns-then-place-eq0-clause-value g c = λ l p size.
    let e : List ℕ = (g.S.ProbeGroups.seen c.args.groups.now).entries in
    let j : ℕ = c.args.block in
    let first : j % 128 ≡ 0 = omega (arith, c.if-place-eq0.true) in
    omega (
      arith,
      ones-of_group l e j p (omega (arith, c.requires.block, size)),
      ap (count_in_group e (j / 128)) first,
      c.before-before.ensures.value,
    )
