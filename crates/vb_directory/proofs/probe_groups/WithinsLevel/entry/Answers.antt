use Rattle.std.proofs.Common.{sym, ◌∙◌}
use Rattle.vb_directory.proofs.CountsLemmas.{within-inside, at_counts_within}
use Rattle.vb_directory.proofs.probe_groups.WithinsLevel.entry.Goals as goal

pub within-requires-clause-number : goal.within-requires-clause-number
within-requires-clause-number g c =
    within-inside (g.S.ProbeGroups.seen c.args.groups.now).entries c.args.self.now.group
    c.args.self.now.blocks c.args.j c.requires.within

pub returns-clause-value : goal.returns-clause-value
returns-clause-value g c = c.within.ensures.value
    ∙ sym (at_counts_within (g.S.ProbeGroups.seen c.args.groups.now).entries
    c.args.self.now.group c.args.self.now.blocks c.args.j c.requires.within)
