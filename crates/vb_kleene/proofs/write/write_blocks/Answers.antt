use Rattle.std.proofs.Common.{◌≡◌, ℕ, ◌+◌, ◌-◌, ◌*◌, ◌≤◌, ◌<◌, Bool, List, length, take, min, ap}
use Rattle.std.proofs.Common.{subst, refl, arith}
use Rattle.std.specs.Prelude.{slice_range}
use Rattle.vb_bits.specs.Writes.{Writes}
use Rattle.vb_bits.proofs.WritesLemmas.{Writes_none}
use Rattle.vb_kleene.specs.Combined.{column, trues_by, valid_by}
use Rattle.vb_kleene.proofs.ColumnLemmas.{length-trues_by, length-valid_by}
use Rattle.vb_kleene.proofs.PartLemmas.{Writes-part}
use Rattle.vb_kleene.proofs.write.write_blocks.Goals as goal

none_written : (b : List ℕ) (o k : ℕ) (l : List Bool) → k ≡ 0 → Writes b b o (take k l)
none_written b o k l none = Writes_none b o (take k l) (ap (λ n. length (take n l)) none)

-- up to 16 more blocks
more_written : (b c d : List ℕ) (o n j w : ℕ) (l : List Bool) → 256 * n ≤ length l → 16 * j < n
    → w ≡ min (n - 16 * j) 16 → Writes b c o (take (256 * min n (16 * j)) l)
    → Writes c d (o + 256 * (16 * j)) (slice_range l (256 * (16 * j)) (256 * (16 * j) + 256 * w))
    → Writes b d o (take (256 * min n (16 * (j + 1))) l)
more_written b c d o n j w l inside some many one =
    let before : 256 * min n (16 * j) ≡ 256 * (16 * j) = omega arith in
    Writes-part b c d o (o + 256 * (16 * j)) (256 * (16 * j)) (256 * w)
    (256 * min n (16 * (j + 1))) l (omega arith) refl (omega arith)
    (subst (λ k. Writes b c o (take k l)) before one)

pub loop-j-init : goal.loop-j-init
loop-j-init g c = record {
  trues = none_written c.args.trues.now c.args.t (256 * min c.args.n 0) _ (omega arith);
  valid = none_written c.args.valid.now c.args.v (256 * min c.args.n 0) _ (omega arith);
}

pub loop-j-preserved : goal.loop-j-preserved
loop-j-preserved g c =
    let left = c.args.left.now in let right = c.args.right.now in
    let f = g.T.Merge.bit in let h = g.F.Merge.bit in let same = c.requires.right in
    record {
      trues = more_written c.args.trues.now c.loop-j.trues c.copy_blocks.new.trues c.args.t c.args.n
          c.loop-j.j c.min.result (trues_by f (column left) (column right))
          (omega (arith, length-trues_by left right same f)) (omega arith) c.min.ensures
          c.loop-j.invariant.trues
          c.copy_blocks.ensures.trues;
      valid = more_written c.args.valid.now c.loop-j.valid c.copy_blocks.new.valid c.args.v c.args.n
          c.loop-j.j c.min.result (valid_by f h (column left) (column right))
          (omega (arith, length-valid_by left right same f h)) (omega arith) c.min.ensures
          c.loop-j.invariant.valid c.copy_blocks.ensures.valid;
    }
