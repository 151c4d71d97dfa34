use Rattle.std.proofs.Common.{arith}
use Rattle.vb_bits.proofs.BitsLemmas.{count-bits-add}
use Rattle.vb_count.proofs.lane_sum.LaneSum.add.Goals as goal

pub returns : goal.returns
returns c =
    let b = c.args.chunk.now in
    omega (
      arith,
      count-bits-add b 0 64 64,
      count-bits-add b 0 128 64,
      count-bits-add b 0 192 64,
      count-bits-add b 0 256 64,
      count-bits-add b 0 320 64,
      count-bits-add b 0 384 64,
      count-bits-add b 0 448 64,
    )
