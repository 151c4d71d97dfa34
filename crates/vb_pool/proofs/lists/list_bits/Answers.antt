use Rattle.std.proofs.Common.{rules}
use Rattle.vb_pool.proofs.WordDigits.{digits-chunks}
use Rattle.vb_pool.proofs.lists.list_bits.Goals as goal

pub returns : goal.returns
returns g c = record { ok = search (rules, digits-chunks); refused = search rules }
