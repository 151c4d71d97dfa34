use Rattle.std.proofs.Common.{◌-◌, arith}
use Rattle.std.proofs.lemmas.List.{length-replicate}
use Rattle.vb_bits.proofs.MasksLemmas.{Writes_or_mask, Writes_and_mask}
use Rattle.vb_bits.proofs.WritesLemmas.{Writes_none}
use Rattle.vb_bits.proofs.fill.fill_in_byte.Goals as goal

pub returns-then-start-end : goal.returns-then-start-end
returns-then-start-end c =
    Writes_none _ _ _ (omega (arith, length-replicate (c.args.end - c.args.start) c.args.v))

pub returns-then-v : goal.returns-then-v
returns-then-v c =
    rw (c.if-v.true, c.byte_mask-mask.ensures)
    (Writes_or_mask c.args.bytes.now c.args.start _ c.requires.in_byte (omega arith))

pub returns-else-v : goal.returns-else-v
returns-else-v c =
    rw (c.if-v.false, c.byte_mask-mask.ensures)
    (Writes_and_mask c.args.bytes.now c.args.start _ c.requires.in_byte (omega arith))
