use Rattle.std.proofs.Common.{◌*◌, take}
use Rattle.vb_bits.specs.Writes.{Writes}
use Rattle.vb_kleene.specs.Combined.{column, trues_by, valid_by}
use Rattle.vb_kleene.proofs.write.write_combined.Given as goal

abbrev pub invariant-loop-k : goal.invariant-loop-k
invariant-loop-k g l = record {
  trues : Writes l.fn.trues l.trues l.t
      (take (64 * l.k) (trues_by g.T.Merge.bit (column l.left) (column l.right)));
  valid : Writes l.fn.valid l.valid l.v (take (64 * l.k)
      (valid_by g.T.Merge.bit g.F.Merge.bit (column l.left) (column l.right)));
}
