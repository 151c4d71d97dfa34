-- Written by tools/write-lists from tools/families/ranked.txt.
use Rattle.vb_bits.proofs.BitsLemmas.{Selects-InvertsCount}
use Rattle.vb_ranked.proofs.ranked.Ranked.select.Goals as goal

pub returns-clause-each : goal.returns-clause-each
returns-clause-each g c = Selects-InvertsCount c.args.self.now.bits c.args.n
    c.select_value.result c.select_value.ensures
