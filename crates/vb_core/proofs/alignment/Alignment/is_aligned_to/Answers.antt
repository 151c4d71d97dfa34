use Rattle.std.proofs.Common.{arith}
use Rattle.vb_core.proofs.Powers.{pow-mod-pow, pow-mod_greater}
use Rattle.vb_core.proofs.alignment.Alignment.is_aligned_to.Goals as goal

pub returns-clause-divides : goal.returns-clause-divides
returns-clause-divides c = grind (arith, pow-mod-pow, pow-mod_greater)
