use Rattle.std.proofs.Common.{arith}
use Rattle.vb_take.proofs.LaneLemmas.{common_digit}
use Rattle.vb_take.proofs.block.common_bits.Goals as goal

pub returns : goal.returns
returns c = λ k h. common_digit c.args.taken c.args.masks k (omega arith) (omega arith) h
