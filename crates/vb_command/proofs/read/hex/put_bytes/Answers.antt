use Rattle.std.proofs.Common.{◌+◌, ◌*◌, arith}
use Rattle.vb_command.proofs.HexLists.{digit_at, pair_written, pairs_written}
use Rattle.vb_command.proofs.read.hex.put_bytes.Goals as goal

pub value_of-requires : goal.value_of-requires
value_of-requires c = digit_at c.args.digits.now (2 * c.loop-i.i) c.requires.digits (omega arith)

pub value_of-requires-in-loop-i : goal.value_of-requires-in-loop-i
value_of-requires-in-loop-i c =
    digit_at c.args.digits.now (2 * c.loop-i.i + 1) c.requires.digits (omega arith)

pub loop-i-preserved : goal.loop-i-preserved
loop-i-preserved c =
    pair_written c.args.digits.now c.loop-i.bytes c.loop-i.i
    c.value_of.result c.value_of-in-loop-i.result (omega arith) (omega arith)
    c.value_of.ensures.value c.value_of-in-loop-i.ensures.value c.loop-i.invariant

pub returns : goal.returns
returns c =
    pairs_written c.args.digits.now c.loop-i.bytes c.loop-i.i (omega arith) (omega arith)
    c.loop-i.invariant
