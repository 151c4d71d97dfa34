use Rattle.std.proofs.Common.{◌+◌, ◌*◌}
use Rattle.std.specs.Prelude.{slice_range}
use Rattle.vb_bits.specs.Writes.{Writes}
use Rattle.vb_kleene.specs.Combined.{column, trues_by, valid_by}
use Rattle.vb_kleene.proofs.write.fill_blocks.Given as goal

abbrev pub invariant-loop-k : goal.invariant-loop-k
invariant-loop-k g l = record {
  trues : Writes l.fn.trues l.trues (8 * l.t) (slice_range
      (trues_by g.T.Merge.bit (column l.left-2) (column l.right-2))
      (256 * l.first) (256 * l.first + 256 * l.k));
  valid : Writes l.fn.valid l.valid (8 * l.v) (slice_range
      (valid_by g.T.Merge.bit g.F.Merge.bit (column l.left-2) (column l.right-2))
      (256 * l.first) (256 * l.first + 256 * l.k));
}
