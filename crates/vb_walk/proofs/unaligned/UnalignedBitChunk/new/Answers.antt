use Rattle.std.proofs.Common.{map}
use Rattle.vb_walk.specs.Cut.{word_of}
use Rattle.vb_walk.proofs.CutLemmas.{IsCut_some}
use Rattle.vb_walk.proofs.unaligned.UnalignedBitChunk.new.Goals as goal

pub returns : goal.returns
returns c =
    let behind = c.words_of-suffix in
    IsCut_some c.args.bytes.now c.args.offset c.args.len c.min.result c.saturating_sub-behind.result
    c.read_bits.result (map word_of behind.result.0.now) behind.result.1
    c.if-len-eq0.false c.min.ensures c.saturating_sub-behind.ensures c.read_bits.ensures.digits
    c.read_bits.ensures.clear behind.ensures.words behind.ensures.some behind.ensures.none
