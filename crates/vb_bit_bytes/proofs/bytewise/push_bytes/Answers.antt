use Rattle.vb_bit_bytes.proofs.CombinedLemmas.{bits-merged_bytes}
use Rattle.std.proofs.Common.{arith}
use Rattle.vb_bit_bytes.proofs.bytewise.push_bytes.Goals as goal

pub returns-clause-bits : goal.returns-clause-bits
returns-clause-bits g c = λ o n h. bits-merged_bytes g.M.Merge.bit
    _ _ _ c.loop-k.k o n c.loop-k.invariant.merged (omega (arith, h))
