use Rattle.std.proofs.Common.{w8}
use Rattle.std.proofs.lemmas.Simd.{below_from_Fits}
use Rattle.vb_filter.proofs.FourLanes.{length-down, down_at}
use Rattle.vb_filter.proofs.fields.move_down.Goals as goal

pub returns-clause-len : goal.returns-clause-len
returns-clause-len c =
    length-down c.args.words c.args.which c.args.places c.requires.lens.0 c.requires.lens.1
    (below_from_Fits w8 c.args.words c.fits-words.1)

pub returns-clause-each : goal.returns-clause-each
returns-clause-each c =
    down_at c.args.words c.args.which c.args.places c.requires.lens.0 c.requires.lens.1
    (below_from_Fits w8 c.args.words c.fits-words.1)
