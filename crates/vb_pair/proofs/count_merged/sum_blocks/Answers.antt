use Rattle.std.proofs.Common.{◌+◌, ◌*◌, ℕ, List, arith}
use Rattle.vb_pair.proofs.MergedLemmas.{merged_ones-le, merged_ones_none, merged_ones_split}
use Rattle.vb_pair.proofs.count_merged.sum_blocks.Goals as goal

pub loop-k-init : goal.loop-k-init
loop-k-init g c =
    let a : List ℕ = c.args.left.now in let b : List ℕ = c.args.right.now in
    let p : ℕ = 8 * c.args.r in
    omega (arith, c.of-sum.ensures, merged_ones_none g.M.Merge.bit a b (8 * c.args.l) p)

pub plus-sum-requires : goal.plus-sum-requires
plus-sum-requires g c =
    let f = g.M.Merge.bit in
    let a : List ℕ = c.args.left.now in let b : List ℕ = c.args.right.now in
    let o : ℕ = 8 * c.args.l in let p : ℕ = 8 * c.args.r in let k : ℕ = c.loop-k.k in
    omega (
      arith,
      c.loop-k.invariant,
      c.block.ensures,
      merged_ones-le f a b o p (256 * k),
      merged_ones-le f a b (8 * (c.args.l + 32 * k)) (8 * (c.args.r + 32 * k)) 256,
    )

pub loop-k-preserved : goal.loop-k-preserved
loop-k-preserved g c =
    let f = g.M.Merge.bit in
    let a : List ℕ = c.args.left.now in let b : List ℕ = c.args.right.now in
    let o : ℕ = 8 * c.args.l in let p : ℕ = 8 * c.args.r in let k : ℕ = c.loop-k.k in
    omega (
      arith,
      c.plus-sum.ensures,
      c.loop-k.invariant,
      c.block.ensures,
      merged_ones_split f a b o p (256 * k) (256 * (k + 1)) (8 * (c.args.l + 32 * k))
          (8 * (c.args.r + 32 * k)) 256 (omega arith) (omega arith) (omega arith),
    )
