use Rattle.std.proofs.Common.{◌≡◌, ◌+◌, ◌-◌, ◌*◌, ◌/◌, ◌%◌, ℕ, arith}
use Rattle.std.proofs.lemmas.Bool.{eqb-true, eq-eqb}
use Rattle.vb_pair.specs.Merged.{merged_ones}
use Rattle.vb_pair.proofs.MergedLemmas.{merged_ones_none, merged_ones_split}
use Rattle.vb_pair.proofs.relation.is_none_merged.Goals as goal

pub loop-k-init : goal.loop-k-init
loop-k-init g c =
    merged_ones_none g.M.Merge.bit c.args.left.now c.args.right.now c.args.l c.args.r

pub loop-k-preserved : goal.loop-k-preserved
loop-k-preserved g c =
    let k : ℕ = c.loop-k.k in
    omega (
      arith,
      c.loop-k.invariant,
      c.merged_word_ones.ensures.value,
      merged_ones_split g.M.Merge.bit c.args.left.now c.args.right.now c.args.l c.args.r (64 * k)
          (64 * (k + 1)) (c.args.l + 64 * k) (c.args.r + 64 * k) 64
          (omega arith) (omega arith) (omega arith),
    )

pub returns-then-merged_word_ones-gt0 : goal.returns-then-merged_word_ones-gt0
returns-then-merged_word_ones-gt0 g c =
    let f = g.M.Merge.bit in
    let o : ℕ = c.args.l in let p : ℕ = c.args.r in let len : ℕ = c.args.len in
    let k : ℕ = c.loop-k.k in
    let here = merged_ones_split f c.args.left.now c.args.right.now o p (64 * k)
    (64 * (k + 1)) (o + 64 * k) (p + 64 * k) 64 (omega arith) (omega arith) (omega arith) in
    let after = merged_ones_split f c.args.left.now c.args.right.now o p (64 * (k + 1)) len
    (o + 64 * (k + 1)) (p + 64 * (k + 1)) (len - 64 * (k + 1))
    (omega arith) (omega arith) (omega arith) in (
      λ t. absurd cc,
      λ e. absurd (omega (
        arith,
        e,
        here,
        after,
        c.merged_word_ones.ensures.value,
        c.if-merged_word_ones-gt0.true,
      )),
    )

pub returns : goal.returns
returns g c =
    let done : ℕ = c.args.len / 64 * 64 in
    let cut = merged_ones_split g.M.Merge.bit c.args.left.now c.args.right.now c.args.l c.args.r
    (64 * c.loop-k.k) c.args.len (c.args.l + done) (c.args.r + done) (c.args.len % 64)
    (omega arith) (omega arith) (omega arith) in
    let all : merged_ones g.M.Merge.bit c.args.left.now c.args.l c.args.right.now c.args.r
    c.args.len ≡ c.few_ones.result =
    omega (arith, cut, c.loop-k.invariant, c.few_ones.ensures.value) in (
      λ t. omega (arith, all, eqb-true c.few_ones.result 0 t),
      λ e. eq-eqb c.few_ones.result 0 (omega (arith, all, e)),
    )
