use Rattle.std.proofs.Common.{◌*◌, take, min}
use Rattle.vb_bits.specs.Writes.{Writes}
use Rattle.vb_kleene.specs.Combined.{column, trues_by, valid_by}
use Rattle.vb_kleene.proofs.write.write_blocks.Given as goal

abbrev pub invariant-loop-j : goal.invariant-loop-j
invariant-loop-j g l = record {
  trues : Writes l.fn.trues l.trues l.t (take (256 * min l.n (16 * l.j))
      (trues_by g.T.Merge.bit (column l.left) (column l.right)));
  valid : Writes l.fn.valid l.valid l.v (take (256 * min l.n (16 * l.j))
      (valid_by g.T.Merge.bit g.F.Merge.bit (column l.left) (column l.right)));
}
