use Rattle.std.proofs.Common.{◌-◌, length}
use Rattle.vb_script_tests.proofs.one_by_one.OneByOne.put_bits.Given as goal

abbrev pub decreases-loop-start : goal.decreases-loop-start
decreases-loop-start g l = length l.bits - l.start
