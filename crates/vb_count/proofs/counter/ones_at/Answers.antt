use Rattle.std.proofs.Common.{◌*◌, refl, ap, ◌∙◌}
use Rattle.vb_bits.specs.Bits.{count}
use Rattle.vb_bits.proofs.BytesLemmas.{bits_of_read}
use Rattle.vb_count.proofs.counter.ones_at.Goals as goal

pub returns-clause-value : goal.returns-clause-value
returns-clause-value g c =
    let b = (g.G.Glance.seen c.args.src.now).bytes in
    c.of.ensures ∙ ap count (bits_of_read b b c.chunk.result c.args.at 64
    (8 * c.args.at) refl c.chunk.ensures.value refl)
