use Rattle.std.proofs.Common.{rules, ◌≡◌, suc, ◌+◌, ◌++◌, ◌∷◌, [], take}
use Rattle.std.proofs.Common.{slice_set, refl, sym, ap, ◌∙◌, arith, zero-add}
use Rattle.std.proofs.Math.Seq.{take-suc-set}
use Rattle.vb_bits.specs.Digits.{digits, has_bit}
use Rattle.vb_set.proofs.DigitsLemmas.{digits_none, digits-add}
use Rattle.vb_pool.proofs.lists.list_digits.Goals as goal

pub loop-k-init : goal.loop-k-init
loop-k-init c = record { digits = sym (digits_none c.args.word 0); len = refl }

pub loop-k-preserved : goal.loop-k-preserved
unfolding digits
loop-k-preserved c =
    let l = c.loop-k in
    let w = c.args.word in
    let read = c.digit.result in
    let turn : l.k + 1 ≡ suc l.k = omega arith in
    let next : digits w 0 (l.k + 1) ≡ digits w 0 l.k ++ has_bit w l.k ∷ [] = digits-add w 0 l.k 1
    ∙ ap (λ i. digits w 0 l.k ++ has_bit w i ∷ []) (zero-add l.k) in
    let bit : read ≡ has_bit w l.k = c.digit.ensures in
    record {
      digits = ap (λ n. take n (slice_set l.list l.k read)) turn
          ∙ take-suc-set l.list l.k read (omega (arith, l.invariant.len))
          ∙ ap (λ d. d ++ read ∷ []) l.invariant.digits
          ∙ ap (λ b. digits w 0 l.k ++ b ∷ []) bit
          ∙ sym next;
      len = search rules;
    }
