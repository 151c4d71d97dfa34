use Rattle.std.proofs.Common.{◌≡◌, rules, slice_range}
use Rattle.vb_bits.specs.Bits.{count}
use Rattle.vb_bits.proofs.WindowLemmas.{count_parts, windows}
use Rattle.vb_bit_buffer.proofs.bit_buffer.BitBuffer.count_range.Goals as goal

pub returns-clause-adds : goal.returns-clause-adds
returns-clause-adds g c = λ b low high.
    let l = c.args.self.now.bits in
    let value : c.true_count.result ≡ count (slice_range l c.args.start c.args.end) =
    search (rules, windows) in
    count_parts _ _ _ _ _ value low high
