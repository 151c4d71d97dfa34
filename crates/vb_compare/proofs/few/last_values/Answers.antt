use Rattle.std.proofs.Common.{◌≡◌, ℕ, ◌+◌, ◌-◌, ◌*◌, ◌/◌, ◌%◌, ◌^◌, Bool, List, length, take, drop}
use Rattle.std.proofs.Common.{sym, ap, subst, ◌∙◌, arith}
use Rattle.std.specs.Prelude.{bit_or}
use Rattle.std.proofs.lemmas.List.{length-drop, drop-drop, take_all}
use Rattle.vb_bits.specs.Digits.{digits}
use Rattle.vb_compare.proofs.FewLemmas.{joined}
use Rattle.vb_compare.proofs.few.last_values.Goals as goal

pub returns-else-n-lt8 : goal.returns-else-n-lt8
returns-else-n-lt8 g c =
    let all : List Bool = g.S.Truths.truths c.args.source.now in
    let n : ℕ = c.args.n in let len : ℕ = c.len-len.result in
    let from : ℕ = len - n in let l : List Bool = drop from all in
    let s : ℕ = n - 8 in let m : ℕ = 8 * (n / 8) in
    let p : ℕ = c.eights.result in let e : ℕ = c.eight.result in
    let same_len : len ≡ length all = c.len-len.ensures in
    let size : length l ≡ n = omega (arith, length-drop from all) in
    let whole : s + 8 ≡ n = omega arith in
    let place : len - 8 ≡ from + s = omega arith in
    let start : len - n ≡ length all - n = omega arith in
    let there : digits e 0 8 ≡ take 8 (drop s l) =
    c.eight.ensures.digits ∙ ap (λ k. take 8 (drop k all)) place
    ∙ ap (take 8) (sym (drop-drop s from all)) in
    subst (λ k. digits (bit_or p (e * 2 ^ s % 2 ^ 64)) 0 k ≡ take k l) whole
    (joined p e s m l (omega arith) (omega arith) (omega arith) (omega arith)
    c.eights.ensures.clear c.eights.ensures.digits there)
    ∙ take_all n l (omega arith) ∙ ap (λ k. drop k all) start
