use Rattle.std.proofs.Common.{arith}
use Rattle.vb_bits.specs.Bits.{Selects}
use Rattle.vb_count.specs.Hits.{hits}
use Rattle.vb_directory.proofs.ManyLemmas.{AllZip-each}
use Rattle.vb_view.specs.View.{bits_of}
use Rattle.vb_directory.proofs.counts.Counts.select_many.Goals as goal

pub returns : goal.returns
returns g c = AllZip-each (Selects (hits c.args.value (bits_of c.args.bits)))
    c.args.ranks.now c.loop-k.places c.loop-k.invariant.long
    (λ k d h. c.loop-k.invariant.each k d (omega (arith, h, c.loop-k-test.false)))
