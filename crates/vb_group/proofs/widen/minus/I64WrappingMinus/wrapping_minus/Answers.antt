use Rattle.std.proofs.lemmas.Int.{wrapping_sub_is}
use Rattle.std.specs.Int.{w64}
use Rattle.vb_group.proofs.widen.minus.I64WrappingMinus.wrapping_minus.Goals as goal

pub returns : goal.returns
returns c = wrapping_sub_is w64 c.args.self c.args.other c.ranges.self c.ranges.other
