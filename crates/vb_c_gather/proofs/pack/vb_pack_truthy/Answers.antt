use Rattle.std.proofs.Common.{length}
use Rattle.std.proofs.lemmas.List.{length-map}
use Rattle.vb_c_core.proofs.PartLemmas.{Writes_in_part}
use Rattle.vb_c_gather.proofs.pack.vb_pack_truthy.Goals as goal

pub returns : goal.returns
returns c =
    Writes_in_part _ _ _ _ (length c.args.truthy.now) _ (length-map c.args.truthy.now _) c.requires
    c.div_ceil-end.ensures c.pack_within.ensures
