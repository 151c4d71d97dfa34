use Rattle.std.proofs.Common.{◌+◌, ◌-◌, take, drop, arith}
use Rattle.std.proofs.lemmas.List.{take_all, length-take, length-drop}
use Rattle.vb_bits.proofs.bytes.chunk_at.Goals as goal

pub returns : goal.returns
returns c = take_all 64 (take (c.args.at + 64 - c.args.at) (drop c.args.at c.args.bytes.now))
    (simp (length-take, length-drop) (omega arith))
