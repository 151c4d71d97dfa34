-- Written by tools/write-lists from tools/families/indices.txt.
use Rattle.vb_c.proofs.OnesLemmas.{WritesOnes}
use Rattle.vb_c.proofs.walk.word_indices.Given as goal

-- the indices of the ones that are no longer in `left` are written
abbrev pub invariant-loop-left : goal.invariant-loop-left
invariant-loop-left l = WritesOnes l.word l.len l.left l.initial.out l.out l.written

abbrev pub decreases-loop-left : goal.decreases-loop-left
decreases-loop-left l = l.left
