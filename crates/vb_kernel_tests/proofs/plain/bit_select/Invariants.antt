use Rattle.std.proofs.Common.{◌≡◌, ◌+◌}
use Rattle.vb_bits.specs.Bits.{bits, count}
use Rattle.vb_kernel_tests.proofs.plain.bit_select.Given as goal

abbrev pub invariant-loop-i : goal.invariant-loop-i
invariant-loop-i l = l.left + count (bits l.bytes l.offset l.i) ≡ l.n
