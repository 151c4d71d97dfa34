use Rattle.std.proofs.Common.{List, ℕ, ◌-◌, sym, ◌∙◌, arith, ap}
use Rattle.vb_rank.specs.Tables.{binary_digits}
use Rattle.vb_directory.specs.Counts.{counts_before}
use Rattle.vb_directory.proofs.CountsLemmas.{BeginsBefore-one_group, length_counts_before}
use Rattle.vb_directory.proofs.groups.find_group.Goals as goal

pub returns-then-len-le-GROUP_BITS-clause-block : goal.returns-then-len-le-GROUP_BITS-clause-block
returns-then-len-le-GROUP_BITS-clause-block g c = λ rises.
    let e : List ℕ = (g.S.ProbeGroups.seen c.args.groups.now).entries in
    BeginsBefore-one_group c.args.value (counts_before e) c.args.n
    (omega (
      arith,
      length_counts_before e c.args.len c.requires.size,
      c.requires.some,
      c.if-len-le-GROUP_BITS.true,
    )) rises

pub find_block-requires-clause-size : goal.find_block-requires-clause-size
find_block-requires-clause-size g c = c.div_ceil-size.ensures ∙ sym (length_counts_before
    (g.S.ProbeGroups.seen c.args.groups.now).entries c.args.len c.requires.size)

pub returns-clause-probes : goal.returns-clause-probes
returns-clause-probes g c =
    let e : List ℕ = (g.S.ProbeGroups.seen c.args.groups.now).entries in
    record {
      same = c.find_block.ensures.same;
      probes = omega (
        arith,
        c.find_block.ensures.probes.probes,
        ap (λ n. binary_digits (n - 1)) (length_counts_before e c.args.len c.requires.size),
      );
    }
