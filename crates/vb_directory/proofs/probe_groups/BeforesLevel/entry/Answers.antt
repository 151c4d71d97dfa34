use Rattle.std.proofs.Common.{ℕ, List, sym, ◌∙◌}
use Rattle.vb_directory.proofs.CountsLemmas.{before-inside, at_counts_before}
use Rattle.vb_directory.proofs.probe_groups.BeforesLevel.entry.Goals as goal

pub before-requires : goal.before-requires
before-requires g c =
    before-inside (g.S.ProbeGroups.seen c.args.groups.now).entries c.args.j c.requires.within

pub returns-clause-value : goal.returns-clause-value
returns-clause-value g c =
    let e : List ℕ = (g.S.ProbeGroups.seen c.args.groups.now).entries in
    c.before-2.ensures.value
    ∙ sym (at_counts_before e c.args.j (before-inside e c.args.j c.requires.within))
