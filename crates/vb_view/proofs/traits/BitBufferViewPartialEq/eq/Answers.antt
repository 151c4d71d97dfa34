use Rattle.vb_view.specs.View.{bits_of}
use Rattle.vb_view.proofs.CompareLemmas.{is_pointwise}
use Rattle.vb_view.proofs.traits.BitBufferViewPartialEq.eq.Goals as goal

pub returns-clause-value : goal.returns-clause-value
returns-clause-value c =
    is_pointwise c.same_bits.result (bits_of c.args.self.now) (bits_of c.args.other.now)
    c.same_bits.ensures
