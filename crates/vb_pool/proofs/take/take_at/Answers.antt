use Rattle.std.proofs.lemmas.List.{map-id}
use Rattle.vb_pool.proofs.take.take_at.Goals as goal

pub returns-clause-taken : goal.returns-clause-taken
returns-clause-taken g c = simp map-id at c.take_bits.ensures.taken

pub returns-clause-refused : goal.returns-clause-refused
returns-clause-refused g c = simp map-id at c.take_bits.ensures.refused
