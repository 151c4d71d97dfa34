use Rattle.std.proofs.Common.{◌+◌, ◌-◌, ◌*◌, ◌/◌, ◌%◌, ℕ, List, arith}
use Rattle.vb_pair.proofs.MergedLemmas.{merged_ones-le, merged_ones_split}
use Rattle.vb_pair.proofs.count_merged.count_long.Goals as goal

pub overflow_add-result : goal.overflow_add-result
overflow_add-result g c =
    let f = g.M.Merge.bit in
    let a : List ℕ = c.args.left.now in let b : List ℕ = c.args.right.now in
    let head : ℕ = (8 - c.args.l % 8) % 8 in
    let done : ℕ = head + 256 * ((c.args.len - head) / 256) in
    record {
      fits = omega (
        arith,
        c.few_ones-first.ensures.few,
        c.count_short-last.ensures,
        merged_ones-le f a b (c.args.l + done) (c.args.r + done) (c.args.len - done),
      );
    }

pub overflow_add-result-2 : goal.overflow_add-result-2
overflow_add-result-2 g c =
    let f = g.M.Merge.bit in
    let a : List ℕ = c.args.left.now in let b : List ℕ = c.args.right.now in
    let head : ℕ = (8 - c.args.l % 8) % 8 in
    let blocks : ℕ = (c.args.len - head) / 256 in
    let done : ℕ = head + 256 * blocks in
    record {
      fits = omega (
        arith,
        c.few_ones-first.ensures.few,
        c.count_short-last.ensures,
        c.count_blocks.ensures,
        merged_ones-le f a b (c.args.l + done) (c.args.r + done) (c.args.len - done),
        merged_ones-le f a b (8 * ((c.args.l + head) / 8)) (c.args.r + head) (256 * blocks),
      );
    }

pub returns : goal.returns
returns g c =
    let f = g.M.Merge.bit in
    let a : List ℕ = c.args.left.now in let b : List ℕ = c.args.right.now in
    let head : ℕ = (8 - c.args.l % 8) % 8 in
    let blocks : ℕ = (c.args.len - head) / 256 in
    let done : ℕ = head + 256 * blocks in
    omega (
      arith,
      c.few_ones-first.ensures.value,
      c.count_short-last.ensures,
      c.count_blocks.ensures,
      merged_ones_split f a b c.args.l c.args.r head done (8 * ((c.args.l + head) / 8))
          (c.args.r + head) (256 * blocks) (omega arith) (omega arith) (omega arith),
      merged_ones_split f a b c.args.l c.args.r done c.args.len (c.args.l + done)
          (c.args.r + done) (c.args.len - done) (omega arith) (omega arith) (omega arith),
    )
