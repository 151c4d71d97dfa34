use Rattle.std.proofs.Common.{slice_index, arith, sym, ◌∙◌}
use Rattle.std.proofs.lemmas.Bool.{lt-ltb}
use Rattle.vb_take.proofs.BlocksLemmas.{digit_of_all}
use Rattle.vb_take.proofs.block.within_word.Goals as goal

pub returns-then-greatest-len : goal.returns-then-greatest-len
returns-then-greatest-len c = λ k h.
    digit_of_all k h ∙ sym
    (lt-ltb (slice_index c.args.block.now k) c.args.len (omega (arith, c.greatest.ensures k h)))
