use Rattle.vb_bits.specs.Bits.{bits}
use Rattle.vb_bits.proofs.BitsLemmas.{length-bits}
use Rattle.vb_select.proofs.LastLemmas.{IsPrevious-last}
use Rattle.vb_select.proofs.last.last_set_index.Goals as goal

pub returns : goal.returns
returns c =
    let b = c.args.bytes.now in
    IsPrevious-last (bits b c.args.offset c.args.len) c.args.len c.last_match.result
    (length-bits b c.args.offset c.args.len) c.last_match.ensures
