use Rattle.std.proofs.Common.{refl}
use Rattle.vb_c_gather.proofs.FrontLemmas.{Packs_in_front}
use Rattle.vb_c_gather.proofs.pack.vb_pack_bools_padded.Goals as goal

pub returns : goal.returns
returns c =
    let packs = c.pack_bools.ensures in
    Packs_in_front c.args.bools.now c.args.out.now c.pack_bools.new.bytes _ _ refl
    c.div_ceil.ensures c.requires packs.packed packs.written
