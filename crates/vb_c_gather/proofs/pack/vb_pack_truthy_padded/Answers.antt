use Rattle.std.proofs.lemmas.List.{length-map}
use Rattle.vb_c_gather.proofs.FrontLemmas.{Packs_in_front}
use Rattle.vb_c_gather.proofs.pack.vb_pack_truthy_padded.Goals as goal

pub returns : goal.returns
returns c =
    let packs = c.pack_truthy.ensures in
    Packs_in_front _ c.args.out.now c.pack_truthy.new.bytes _ _ (length-map c.args.truthy.now _)
    c.div_ceil.ensures c.requires packs.packed packs.written
