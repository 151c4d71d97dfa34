use Rattle.std.proofs.Common.{ℕ, ◌+◌, ◌*◌, ◌≤◌, Bool, List, length, sym, ap, subst, ◌∙◌, arith}
use Rattle.std.specs.Prelude.{slice_range}
use Rattle.vb_bits.specs.Bits.{bits}
use Rattle.vb_bits.specs.Writes.{Writes}
use Rattle.vb_kleene.specs.Combined.{column, trues_by, valid_by}
use Rattle.vb_kleene.proofs.ColumnLemmas.{length-trues_by, length-valid_by}
use Rattle.vb_kleene.proofs.PartLemmas.{length-part}
use Rattle.vb_kleene.proofs.write.copy_blocks.Goals as goal

-- the results are copied
copied : (before made b c : List ℕ) (o a w : ℕ) (l : List Bool) → a + w ≤ length l
    → Writes before made 0 (slice_range l a (a + w)) → Writes b c o (bits made 0 w)
    → Writes b c o (slice_range l a (a + w))
copied before made b c o a w l inside wrote =
    subst (Writes b c o) (ap (bits made 0) (sym (length-part l a w inside)) ∙ wrote.window)

pub returns-clause-trues : goal.returns-clause-trues
returns-clause-trues g c =
    let left = c.args.left.now in let right = c.args.right.now in
    let f = g.T.Merge.bit in let same = c.requires.right in
    copied _ c.fill_blocks.new.trues c.args.trues.now c.copy_bits.new.dst
    (c.args.t + 256 * c.args.first) (256 * c.args.first) (256 * c.args.n)
    (trues_by f (column left) (column right))
    (omega (arith, length-trues_by left right same f, c.requires.inside))
    c.fill_blocks.ensures.trues c.copy_bits.ensures

pub returns-clause-valid : goal.returns-clause-valid
returns-clause-valid g c =
    let left = c.args.left.now in let right = c.args.right.now in
    let f = g.T.Merge.bit in let h = g.F.Merge.bit in let same = c.requires.right in
    copied _ c.fill_blocks.new.valid c.args.valid.now c.copy_bits-2.new.dst
    (c.args.v + 256 * c.args.first) (256 * c.args.first) (256 * c.args.n)
    (valid_by f h (column left) (column right))
    (omega (arith, length-valid_by left right same f h, c.requires.inside))
    c.fill_blocks.ensures.valid c.copy_bits-2.ensures
