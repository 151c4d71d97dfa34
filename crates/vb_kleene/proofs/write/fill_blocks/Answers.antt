use Rattle.std.proofs.Common.{◌≡◌, ℕ, ◌+◌, ◌*◌, ◌≤◌, Bool, List, length, ap, subst, ◌∙◌}
use Rattle.std.proofs.Common.{arith}
use Rattle.std.specs.Prelude.{slice_range}
use Rattle.vb_bits.specs.Writes.{Writes}
use Rattle.vb_bits.proofs.WritesLemmas.{Writes_none}
use Rattle.vb_kleene.specs.Combined.{column, trues_by, valid_by}
use Rattle.vb_kleene.proofs.ColumnLemmas.{length-trues_by, length-valid_by}
use Rattle.vb_kleene.proofs.PartLemmas.{Writes-next, length-part}
use Rattle.vb_kleene.proofs.write.fill_blocks.Goals as goal

none_written : (b : List ℕ) (o a : ℕ) (l : List Bool) → a ≤ length l
    → Writes b b o (slice_range l a (a + 0))
none_written b o a l inside = Writes_none b o (slice_range l a (a + 0))
    (length-part l a 0 (omega arith))

-- one more block
block_written : (b c d : List ℕ) (t first k : ℕ) (l m : List Bool)
    → 256 * first + 256 * k ≤ length l
    → m ≡ slice_range l (256 * (first + k)) (256 * (first + k) + 256)
    → Writes b c (8 * t) (slice_range l (256 * first) (256 * first + 256 * k))
    → Writes c d (8 * (t + 32 * k)) m
    → Writes b d (8 * t) (slice_range l (256 * first) (256 * first + 256 * (k + 1)))
block_written b c d t first k l m inside is one two =
    let at : 256 * (first + k) ≡ 256 * first + 256 * k = omega arith in
    Writes-next b c d (8 * t) (8 * (t + 32 * k)) (256 * first) (256 * first + 256 * k) 256
    (256 * first + 256 * (k + 1)) l (omega arith) inside (omega arith) (omega arith) one
    (subst (Writes c d (8 * (t + 32 * k))) (is ∙ ap (λ a. slice_range l a (a + 256)) at) two)

pub loop-k-init : goal.loop-k-init
loop-k-init g c =
    let left = c.args.left.now in let right = c.args.right.now in
    let f = g.T.Merge.bit in let h = g.F.Merge.bit in let same = c.requires.right in
    record {
      trues = none_written c.args.trues.now (8 * c.args.t) (256 * c.args.first)
          (trues_by f (column left) (column right))
          (omega (arith, length-trues_by left right same f, c.requires.inside));
      valid = none_written c.args.valid.now (8 * c.args.v) (256 * c.args.first)
          (valid_by f h (column left) (column right))
          (omega (arith, length-valid_by left right same f h, c.requires.inside));
    }

pub loop-k-preserved : goal.loop-k-preserved
loop-k-preserved g c =
    let left = c.args.left.now in let right = c.args.right.now in
    let f = g.T.Merge.bit in let h = g.F.Merge.bit in let same = c.requires.right in
    record {
      trues = block_written c.args.trues.now c.loop-k.trues c.store_lanes.new.out c.args.t
          c.args.first c.loop-k.k (trues_by f (column left) (column right)) _
          (omega (arith, length-trues_by left right same f)) c.block.ensures.trues
          c.loop-k.invariant.trues c.store_lanes.ensures;
      valid = block_written c.args.valid.now c.loop-k.valid c.store_lanes-in-loop-k.new.out
          c.args.v c.args.first c.loop-k.k (valid_by f h (column left) (column right)) _
          (omega (arith, length-valid_by left right same f h)) c.block.ensures.valid
          c.loop-k.invariant.valid c.store_lanes-in-loop-k.ensures;
    }
