-- Written by tools/write-lists from tools/families/nearest.txt.
use Rattle.std.proofs.Common.{false}
use Rattle.vb_select.proofs.LastLemmas.{IsPrevious_longer}
use Rattle.vb_select.proofs.last.previous_unset.Goals as goal

pub returns : goal.returns
returns c =
    IsPrevious_longer false c.args.bytes.now c.args.offset c.args.len c.min.result c.args.before
    c.last_match.result c.min.ensures c.last_match.ensures
