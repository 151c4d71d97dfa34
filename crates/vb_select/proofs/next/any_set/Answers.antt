use Rattle.vb_bits.specs.Bits.{bits, count}
use Rattle.vb_select.proofs.NearestLemmas.{some_if}
use Rattle.vb_select.proofs.next.any_set.Goals as goal

pub returns : goal.returns
returns c = some_if c.is_without.result
    (count (bits c.args.bytes.now c.args.offset c.args.len)) c.is_without.ensures
