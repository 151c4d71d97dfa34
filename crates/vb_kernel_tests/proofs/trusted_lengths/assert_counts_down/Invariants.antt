use Rattle.vb_kernel_tests.proofs.trusted_lengths.assert_counts_down.Given as goal

abbrev pub invariant-loop-left : goal.invariant-loop-left
invariant-loop-left g l = g.I.Iterator.can_next l.iter
