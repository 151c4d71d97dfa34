use Rattle.std.proofs.Common.{rules}
use Rattle.vb_core.proofs.Powers.{is_power_of_two-IsPower}
use Rattle.vb_core.proofs.alignment.Alignment.try_from_u32.Goals as goal

pub returns-then-not-is_power_of_two-clause-power :
    goal.returns-then-not-is_power_of_two-clause-power
returns-then-not-is_power_of_two-clause-power c = search (rules, is_power_of_two-IsPower)

pub returns-then-not-is_power_of_two-clause-err :
    goal.returns-then-not-is_power_of_two-clause-err
returns-then-not-is_power_of_two-clause-err c = search (rules, is_power_of_two-IsPower)
