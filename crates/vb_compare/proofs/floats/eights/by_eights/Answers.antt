use Rattle.std.proofs.Common.{arith, ◌≡◌, ℕ, ◌+◌, ◌*◌, ◌^◌, ◌%◌, ◌<◌, Bool, List, length, take}
use Rattle.std.proofs.Common.{drop, subst, ◌∙◌, lit<}
use Rattle.std.specs.Prelude.{bit_or}
use Rattle.std.proofs.lemmas.List.{take_all}
use Rattle.std.proofs.lemmas.Simd.{length-zip2}
use lib.Lanes.{zip2}
use Rattle.vb_bits.specs.Digits.{digits}
use Rattle.vb_bits.proofs.DigitsLemmas.{digits_none}
use Rattle.vb_compare.proofs.FewLemmas.{joined, joined_below}
use Rattle.vb_compare.proofs.EightLemmas.{eight_at}
use Rattle.vb_compare.proofs.floats.eights.by_eights.Goals as goal

pub loop-k-init : goal.loop-k-init
loop-k-init g c = record { digits = digits_none 0 0; clear = lit< tt }

pub loop-k-preserved : goal.loop-k-preserved
loop-k-preserved g c =
    let t = g.C.Eight.holds in let xs = c.args.left.now in let ys = c.args.right.now in
    let k : ℕ = c.loop-k.k in let s : ℕ = 8 * k in let l : List Bool = zip2 t xs ys in
    let size : length l ≡ length xs = length-zip2 t xs ys (omega arith) in
    let inv = c.loop-k.invariant in
    let p : ℕ = c.loop-k.word in let e : ℕ = c.eight.result in
    let more : s + 8 ≡ 8 * (k + 1) = omega arith in
    let there : digits e 0 8 ≡ take 8 (drop s l) =
    eight_at t s e xs ys c.eight.ensures.digits in
    record {
      digits = subst (λ n. digits (bit_or p (e * 2 ^ s % 2 ^ 64)) 0 n ≡ take n l) more
          (joined p e s s l (omega arith) (omega arith) (omega arith) (omega arith)
          inv.clear inv.digits there);
      clear = subst (λ n. bit_or p (e * 2 ^ s % 2 ^ 64) < 2 ^ n) more
          (joined_below p e s inv.clear c.eight.ensures.clear);
    }

pub returns : goal.returns
returns g c =
    let t = g.C.Eight.holds in let xs = c.args.left.now in let ys = c.args.right.now in
    let l : List Bool = zip2 t xs ys in
    let size : length l ≡ length xs = length-zip2 t xs ys (omega arith) in
    let end : 8 * c.loop-k.k ≡ 64 = omega arith in
    subst (λ n. digits c.loop-k.word 0 n ≡ take n l) end c.loop-k.invariant.digits
    ∙ take_all 64 l (omega arith)
