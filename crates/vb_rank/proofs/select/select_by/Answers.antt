use Rattle.vb_bits.specs.Bits.{bits}
use Rattle.vb_bits.proofs.BitsLemmas.{Selects-InvertsCount}
use Rattle.vb_rank.proofs.select.select_by.Goals as goal

pub returns-clause-each : goal.returns-clause-each
returns-clause-each g c =
    λ e. Selects-InvertsCount (bits (g.G.Glance.seen c.args.src.now).bytes c.args.offset c.args.len)
    c.args.n c.select_value_by.result (c.select_value_by.ensures.place e)
