-- Written by tools/write-lists from tools/families/masked_floats.txt.
use Rattle.std.proofs.Common.{refl}
use Rattle.vb_aggregate.proofs.float_summand.F32FloatSummand.nan.Goals as goal
use lib.Ieee.{of_bits}

pub returns : goal.returns
unfolding of_bits
returns c = refl
