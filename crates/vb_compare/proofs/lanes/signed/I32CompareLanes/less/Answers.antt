-- Written by tools/write-lists from tools/families/lanes.txt.
use mir.Syntax.{w32}
use Rattle.vb_compare.proofs.LaneLemmas.{signed_less}
use Rattle.vb_compare.proofs.lanes.signed.I32CompareLanes.less.Goals as goal

pub returns : goal.returns
returns c =
    let l = c.requires.left in let r = c.requires.right in
    signed_less w32 c.args.left c.args.right l.0 r.0 l.1 r.1
