use Rattle.vb_bits.proofs.MasksLemmas.{Writes_set}
use Rattle.vb_bits.proofs.bit.set_bit_unchecked.Goals as goal

pub returns : goal.returns
returns c = Writes_set _ _ c.requires
