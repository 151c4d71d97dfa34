use Rattle.vb_bits.proofs.DigitsLemmas.{length-digits}
use Rattle.vb_c_core.proofs.PartLemmas.{Writes_in_part}
use Rattle.vb_c_core.proofs.copy.write_to_window.Goals as goal

pub returns : goal.returns
returns c =
    Writes_in_part _ _ _ _ c.args.count _ (length-digits _ _ _) c.requires.into
    c.div_ceil-end.ensures c.write_digits.ensures
