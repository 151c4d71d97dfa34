use Rattle.std.proofs.Common.{subst}
use Rattle.vb_bits.specs.Writes.{Writes}
use Rattle.vb_c_core.proofs.MoveLemmas.{moved_by}
use Rattle.vb_c_core.proofs.PartLemmas.{bits_of_part}
use Rattle.vb_c_core.proofs.copy.move_by.Goals as goal

pub returns-clause-moved : goal.returns-clause-moved
returns-clause-moved c =
    moved_by c.args.block.now c.copy_bits.new.dst c.args.bytes.now c.copy_to_window.new.dst
    c.args.d c.args.s c.args.len
    (subst (Writes c.args.block.now c.copy_bits.new.dst 0)
    (bits_of_part c.args.bytes.now c.args.s c.args.len _ c.div_ceil-end.ensures)
    c.copy_bits.ensures)
    c.copy_to_window.ensures
