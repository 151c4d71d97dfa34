use Rattle.vb_bits.proofs.BitsLemmas.{length-bits}
use Rattle.vb_c_core.proofs.PartLemmas.{Writes_in_part}
use Rattle.vb_c_core.proofs.copy.copy_to_window.Goals as goal

pub returns : goal.returns
returns c =
    Writes_in_part _ _ _ _ c.args.len _ (length-bits _ _ _) c.requires.into
    c.div_ceil-end.ensures c.copy_bits.ensures
