use Rattle.vb_bits.proofs.into.zip_into.Goals as goal

pub returns-in-And : goal.returns-in-And
returns-in-And c = rw c.in-And.is c.merge_into.ensures

pub returns-in-Or : goal.returns-in-Or
returns-in-Or c = rw c.in-Or.is c.merge_into-in-Or.ensures

pub returns-in-Xor : goal.returns-in-Xor
returns-in-Xor c = rw c.in-Xor.is c.merge_into-in-Xor.ensures

pub returns-in-AndNot : goal.returns-in-AndNot
returns-in-AndNot c = rw c.in-AndNot.is c.merge_into-in-AndNot.ensures
