use Rattle.std.proofs.Common.{arith, ◌≡◌, ℕ, ◌+◌, ◌*◌, ◌^◌, ◌%◌, ◌<◌, Bool, List, take, drop, sym}
use Rattle.std.proofs.Common.{ap, subst, ◌∙◌, lit<}
use Rattle.std.specs.Prelude.{bit_or}
use Rattle.std.proofs.lemmas.List.{length-drop, drop-drop}
use Rattle.vb_bits.specs.Digits.{digits}
use Rattle.vb_bits.proofs.DigitsLemmas.{digits_none}
use Rattle.vb_compare.proofs.FewLemmas.{joined, joined_below}
use Rattle.vb_compare.proofs.few.eights.Goals as goal

pub loop-k-init : goal.loop-k-init
loop-k-init g c = record { digits = digits_none 0 0; clear = lit< tt }

pub loop-k-preserved : goal.loop-k-preserved
loop-k-preserved g c =
    let k : ℕ = c.loop-k.k in let s : ℕ = 8 * k in let from : ℕ = c.args.from in
    let all : List Bool = g.S.Truths.truths c.args.source.now in
    let l : List Bool = drop from all in let inv = c.loop-k.invariant in
    let p : ℕ = c.loop-k.word in let e : ℕ = c.eight.result in
    let more : s + 8 ≡ 8 * (k + 1) = omega arith in
    let there : digits e 0 8 ≡ take 8 (drop s l) =
    c.eight.ensures.digits ∙ ap (take 8) (sym (drop-drop s from all)) in
    record {
      digits = subst (λ n. digits (bit_or p (e * 2 ^ s % 2 ^ 64)) 0 n ≡ take n l) more
          (joined p e s s l (omega arith) (omega arith) (omega arith)
          (omega (arith, length-drop from all)) inv.clear inv.digits there);
      clear = subst (λ n. bit_or p (e * 2 ^ s % 2 ^ 64) < 2 ^ n) more
          (joined_below p e s inv.clear c.eight.ensures.clear);
    }
