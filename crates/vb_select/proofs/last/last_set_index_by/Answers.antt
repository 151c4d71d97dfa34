use Rattle.vb_bits.specs.Bits.{bits}
use Rattle.vb_bits.proofs.BitsLemmas.{length-bits}
use Rattle.vb_select.proofs.LastLemmas.{IsPrevious-last}
use Rattle.vb_select.proofs.last.last_set_index_by.Goals as goal

pub returns-clause-value : goal.returns-clause-value
returns-clause-value g c =
    let b = (g.G.Glance.seen c.args.src.now).bytes in
    IsPrevious-last (bits b c.args.offset c.args.len) c.args.len c.last_match_by.result
    (length-bits b c.args.offset c.args.len) c.last_match_by.ensures.value
