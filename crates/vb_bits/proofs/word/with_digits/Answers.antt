use Rattle.vb_bits.proofs.WordLemmas.{mixed_inside, mixed_outside}
use Rattle.vb_bits.proofs.word.with_digits.Goals as goal

pub returns-clause-inside : goal.returns-clause-inside
returns-clause-inside c =
    mixed_inside c.args.old c.args.from c.args.count c.args.word c.requires.in_word

pub returns-clause-others : goal.returns-clause-others
returns-clause-others c = λ i l h.
    mixed_outside c.args.old c.args.from c.args.count c.args.word i c.requires.in_word l h
