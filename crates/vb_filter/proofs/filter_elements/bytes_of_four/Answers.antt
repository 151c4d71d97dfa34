use Rattle.vb_filter.proofs.ElementsLemmas.{four_forms}
use Rattle.vb_filter.proofs.filter_elements.bytes_of_four.Goals as goal

pub returns-clause-bytes : goal.returns-clause-bytes
returns-clause-bytes g c =
    four_forms c.word_of.result c.word_of-2.result c.word_of-3.result c.word_of-4.result _ _ _ _
    c.word_of.ensures.fits c.word_of-2.ensures.fits c.word_of-3.ensures.fits
    c.word_of-4.ensures.fits c.word_of.ensures.bytes c.word_of-2.ensures.bytes
    c.word_of-3.ensures.bytes c.word_of-4.ensures.bytes
