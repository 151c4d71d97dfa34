use Rattle.vb_bits.proofs.MasksLemmas.{Writes_unset}
use Rattle.vb_bits.proofs.bit.unset_bit_unchecked.Goals as goal

pub returns : goal.returns
returns c = Writes_unset _ _ c.requires
