use Rattle.std.proofs.Common.{◌+◌, ◌*◌, ◌/◌, ◌%◌, ℕ, arith}
use Rattle.vb_pair.proofs.MergedLemmas.{merged_ones-le, merged_ones_none, merged_ones_split}
use Rattle.vb_pair.proofs.count_merged.count_short.Goals as goal

pub loop-k-init : goal.loop-k-init
loop-k-init g c = omega (
  arith,
  merged_ones_none g.M.Merge.bit c.args.left.now c.args.right.now c.args.l c.args.r,
)

pub overflow_add-ones : goal.overflow_add-ones
overflow_add-ones g c = record {
  fits = omega (
    arith,
    c.loop-k.invariant,
    c.merged_word_ones-ones.ensures.few,
    merged_ones-le g.M.Merge.bit c.args.left.now c.args.right.now c.args.l c.args.r
        (64 * c.loop-k.k),
  );
}

pub loop-k-preserved : goal.loop-k-preserved
loop-k-preserved g c =
    let k : ℕ = c.loop-k.k in
    omega (
      arith,
      c.loop-k.invariant,
      c.merged_word_ones-ones.ensures.value,
      merged_ones_split g.M.Merge.bit c.args.left.now c.args.right.now c.args.l c.args.r (64 * k)
          (64 * (k + 1)) (c.args.l + 64 * k) (c.args.r + 64 * k) 64
          (omega arith) (omega arith) (omega arith),
    )

pub overflow_add-result : goal.overflow_add-result
overflow_add-result g c = record {
  fits = omega (
    arith,
    c.loop-k.invariant,
    c.few_ones.ensures.few,
    merged_ones-le g.M.Merge.bit c.args.left.now c.args.right.now c.args.l c.args.r
        (64 * c.loop-k.k),
  );
}

pub returns : goal.returns
returns g c =
    let done : ℕ = c.args.len / 64 * 64 in
    omega (
      arith,
      c.loop-k.invariant,
      c.few_ones.ensures.value,
      merged_ones_split g.M.Merge.bit c.args.left.now c.args.right.now c.args.l c.args.r
          (64 * c.loop-k.k) c.args.len (c.args.l + done) (c.args.r + done) (c.args.len % 64)
          (omega arith) (omega arith) (omega arith),
    )
