use Rattle.std.proofs.Common.{length, arith}
use Rattle.vb_view.specs.View.{bits_of}
use Rattle.vb_aggregate.proofs.WordsLemmas.{front_word}
use Rattle.vb_aggregate.proofs.walk.fold_few_or_kept.Goals as goal

pub returns-then-n-eq64 : goal.returns-then-n-eq64
returns-then-n-eq64 g c = front_word g.W.WordFold.shows c.args.start c.add_word.result
    (bits_of c.args.mask) c.args.values.now c.requires.same_len 64 c.view_word.result
    (omega (arith, c.if-n-eq64.true, c.requires.same_len))
    c.view_word.ensures.digits c.add_word.ensures

pub returns : goal.returns
returns g c = front_word g.W.WordFold.shows c.args.start c.add_word-2.result
    (bits_of c.args.mask) c.args.values.now c.requires.same_len (length c.args.values.now)
    c.view_word-2.result (omega (arith, c.requires.same_len)) c.view_word-2.ensures.digits
    c.add_word-2.ensures
