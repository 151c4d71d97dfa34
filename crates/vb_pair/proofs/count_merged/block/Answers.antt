use Rattle.std.proofs.Common.{◌+◌, ◌*◌, ℕ, List, arith, refl}
use Rattle.vb_pair.proofs.MergedLemmas.{merged_ones_split}
use Rattle.vb_pair.proofs.count_merged.block.Goals as goal

pub returns : goal.returns
returns g c =
    let f = g.M.Merge.bit in
    let a : List ℕ = c.args.left.now in let b : List ℕ = c.args.right.now in
    let o : ℕ = 8 * c.args.l in let p : ℕ = 8 * c.args.r in
    omega (
      arith,
      c.of_four.ensures,
      c.whole_word_ones.ensures.value,
      c.whole_word_ones-2.ensures.value,
      c.whole_word_ones-3.ensures.value,
      c.whole_word_ones-4.ensures.value,
      merged_ones_split f a b o p 64 128 (8 * (c.args.l + 8)) (8 * (c.args.r + 8)) 64
          (omega arith) (omega arith) refl,
      merged_ones_split f a b o p 128 192 (8 * (c.args.l + 16)) (8 * (c.args.r + 16)) 64
          (omega arith) (omega arith) refl,
      merged_ones_split f a b o p 192 256 (8 * (c.args.l + 24)) (8 * (c.args.r + 24)) 64
          (omega arith) (omega arith) refl,
    )
