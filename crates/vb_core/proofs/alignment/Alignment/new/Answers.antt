use Rattle.vb_core.proofs.Powers.{pow-highest, is_power_of_two-IsPower}
use Rattle.vb_core.proofs.alignment.Alignment.new.Goals as goal

pub returns : goal.returns
returns c =
    pow-highest c.args.align c.ilog2.result (is_power_of_two-IsPower c.args.align c.requires)
    c.ilog2.ensures.power_le c.ilog2.ensures.next_power_gt
