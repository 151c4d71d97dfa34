use Rattle.std.proofs.Common.{ℕ, Bool, true, false, List, refl, ap, ◌∙◌}
use Rattle.vb_bits.specs.Bits.{bits}
use Rattle.vb_bits.proofs.BitsLemmas.{length-bits}
use Rattle.vb_rank.specs.Tables.{block_counts}
use Rattle.vb_rank.proofs.TablesLemmas.{Rises-table}
use Rattle.vb_directory.specs.Counts.{numbers_for}
use Rattle.vb_directory.proofs.select_each.select_each_in_groups.Goals as goal

pub find_each_in_groups-requires-clause-size : goal.find_each_in_groups-requires-clause-size
find_each_in_groups-requires-clause-size g c = c.requires.counts.long ∙ ap numbers_for
    (length-bits (g.G.Glance.seen c.args.src.now).bytes c.args.offset c.args.len)

pub returns-clause-place : goal.returns-clause-place
returns-clause-place g c = λ k d h.
    let b : List ℕ = (g.G.Glance.seen c.args.src.now).bytes in
    let o : ℕ = c.args.offset in let n : ℕ = c.args.len in
    let l : List Bool = bits b o n in
    let t : List ℕ = block_counts l in
    c.select_each_from.ensures.place t refl k d h
    (c.find_each_in_groups.ensures.block l (length-bits b o n) c.requires.counts
    (Rises-table true b t o n refl) (Rises-table false b t o n refl) k h)
