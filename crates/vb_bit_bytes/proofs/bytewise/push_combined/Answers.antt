use Rattle.vb_bit_bytes.proofs.bytewise.push_combined.Goals as goal

pub returns-in-And-clause-bits : goal.returns-in-And-clause-bits
returns-in-And-clause-bits g c = rw c.in-And.is c.push_bytes.ensures.bits

pub returns-in-Or-clause-bits : goal.returns-in-Or-clause-bits
returns-in-Or-clause-bits g c = rw c.in-Or.is c.push_bytes-in-Or.ensures.bits

pub returns-in-Xor-clause-bits : goal.returns-in-Xor-clause-bits
returns-in-Xor-clause-bits g c = rw c.in-Xor.is c.push_bytes-in-Xor.ensures.bits

pub returns-in-AndNot-clause-bits : goal.returns-in-AndNot-clause-bits
returns-in-AndNot-clause-bits g c = rw c.in-AndNot.is c.push_bytes-in-AndNot.ensures.bits
