-- Written by tools/write-lists from tools/families/ranked.txt.
use Rattle.std.proofs.Common.{Bool, List}
use Rattle.vb_bits.specs.Bits.{Selects, InvertsCount}
use Rattle.vb_bits.proofs.BitsLemmas.{Selects-InvertsCount}
use Rattle.vb_ranked.proofs.ManyLemmas.{AllZip-through}
use Rattle.vb_ranked.proofs.ranked_buffer.RankedBuffer.select_many.Goals as goal

pub returns-clause-each : goal.returns-clause-each
returns-clause-each g c =
    let l : List Bool = c.args.self.now.bits in
    AllZip-through (Selects l) (InvertsCount l) (λ n r s. Selects-InvertsCount l n r s)
    c.args.ranks.now c.select_many.new.places
    (rw c.as_view.ensures.bits at c.select_many.ensures)
