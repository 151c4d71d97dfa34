-- Written by tools/write-lists from tools/families/lanes.txt.
use mir.Syntax.{w16}
use Rattle.vb_compare.proofs.LaneLemmas.{signed_less}
use Rattle.vb_compare.proofs.lanes.signed.I16CompareLanes.less.Goals as goal

pub returns : goal.returns
returns c =
    let l = c.requires.left in let r = c.requires.right in
    signed_less w16 c.args.left c.args.right l.0 r.0 l.1 r.1
