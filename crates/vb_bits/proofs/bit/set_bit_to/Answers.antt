use Rattle.vb_bits.proofs.MasksLemmas.{Writes_put}
use Rattle.vb_bits.proofs.bit.set_bit_to.Goals as goal

pub returns : goal.returns
returns c = Writes_put _ _ _ _ _ c.from.ensures c.rotate_left.ensures c.requires
