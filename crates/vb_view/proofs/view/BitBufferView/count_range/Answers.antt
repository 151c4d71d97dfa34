use Rattle.std.proofs.Common.{◌≡◌, rules, slice_range}
use Rattle.vb_bits.specs.Bits.{count}
use Rattle.vb_bits.proofs.WindowLemmas.{count_parts, windows}
use Rattle.vb_view.specs.View.{bits_of}
use Rattle.vb_view.proofs.view.BitBufferView.count_range.Goals as goal

pub returns-clause-adds : goal.returns-clause-adds
returns-clause-adds c = λ b low high.
    let value : c.count_ones.result
    ≡ count (slice_range (bits_of c.args.self.now) c.args.start c.args.end) =
    search (rules, windows) in
    count_parts _ _ _ _ _ value low high
