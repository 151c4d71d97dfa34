use Rattle.std.proofs.Common.{ltb, arith}
use Rattle.vb_take.proofs.LaneLemmas.{lane_digit}
use Rattle.vb_take.proofs.block.lanes_below.Goals as goal

pub returns : goal.returns
returns c = λ k h. lane_digit ltb c.args.block c.args.len k (omega arith) h
