use Rattle.std.proofs.Common.{ap, eqb}
use Rattle.std.specs.Int.{w64}
use Rattle.std.proofs.lemmas.Nat.Bits.{bit_at-trailing_zeros}
use Rattle.vb_walk.proofs.OnesLemmas.{CutsOnes-run}
use Rattle.vb_walk.proofs.ones.lowest_run.Goals as goal

pub returns-clause-some : goal.returns-clause-some
returns-clause-some c = (CutsOnes-run c.args.word
    c.trailing_ones.result c.requires c.ranges.word.fits c.trailing_ones.ensures).1

pub returns-clause-below : goal.returns-clause-below
returns-clause-below c = λ i l.
    ap (λ x. eqb x 1) ((bit_at-trailing_zeros w64 c.args.word c.requires c.ranges.word.fits).2 i l)

pub returns-clause-cut : goal.returns-clause-cut
returns-clause-cut c = (CutsOnes-run c.args.word
    c.trailing_ones.result c.requires c.ranges.word.fits c.trailing_ones.ensures).0
