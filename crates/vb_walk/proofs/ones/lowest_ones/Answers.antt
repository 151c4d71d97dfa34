use Rattle.std.proofs.Common.{◌+◌, ◌<◌, sym, subst}
use Rattle.std.specs.Int.{w64}
use Rattle.std.specs.Int.Bits.{bit_and}
use Rattle.std.proofs.lemmas.Nat.Bits.{bit_at-trailing_ones}
use Rattle.vb_walk.specs.Ones.{CutsOnes}
use Rattle.vb_walk.proofs.OnesLemmas.{CutsOnes-low}
use Rattle.vb_walk.proofs.ones.lowest_ones.Goals as goal

pub returns-clause-few : goal.returns-clause-few
returns-clause-few c = subst (λ z. z < 64) (sym c.trailing_ones.ensures)
    (bit_at-trailing_ones w64 c.args.word c.requires).0

pub returns-clause-cut : goal.returns-clause-cut
returns-clause-cut c = subst (λ z. CutsOnes c.args.word 0 z (bit_and c.args.word (c.args.word + 1)))
    (sym c.trailing_ones.ensures) (CutsOnes-low c.args.word c.requires)
