-- Written by tools/write-lists from tools/families/summands.txt.
use Rattle.std.proofs.lemmas.Int.{wrapping_add_is}
use Rattle.std.specs.Int.{w128}
use Rattle.vb_aggregate.proofs.summand.signed.I128Summand.wrapping_plus.Goals as goal

pub returns : goal.returns
returns c = wrapping_add_is w128 c.args.self c.args.other c.ranges.self c.ranges.other
