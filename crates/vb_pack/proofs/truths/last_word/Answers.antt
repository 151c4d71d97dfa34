use Rattle.std.proofs.Common.{arith, ◌≡◌, ℕ, ◌+◌, ◌-◌, ◌^◌, ◌<◌, length, map, drop, subst, sym, ap}
use Rattle.std.proofs.Common.{◌∙◌}
use Rattle.std.proofs.lemmas.List.{length-map, take_all, length-drop, drop-map}
use Rattle.std.proofs.lemmas.Nat.{shr_below}
use Rattle.vb_pack.specs.Digits.{digits}
use Rattle.vb_pack.proofs.TruthLemmas.{last_values}
use Rattle.vb_pack.proofs.truths.last_word.Goals as goal

pub returns-clause-digits : goal.returns-clause-digits
returns-clause-digits g c =
    let l = c.args.values.now in let t = g.T.Truth.truth in let m = map t l in
    let n : ℕ = length l in let r : ℕ = c.args.rest in
    let long : length m ≡ n = length-map l t in
    let e : digits c.word.result 0 64 ≡ drop (length m - 64) m =
    c.word.ensures
    ∙ ap (map t) (take_all (n - (n - 64)) (drop (n - 64) l) (omega (arith, length-drop (n - 64) l)))
    ∙ sym (drop-map t (n - 64) l) ∙ ap (λ k. drop (k - 64) m) (sym long) in
    last_values c.word.result r m (omega (arith, long)) c.requires.in_word e
    ∙ ap (λ k. drop (k - r) m) long

pub returns-clause-clear : goal.returns-clause-clear
returns-clause-clear g c =
    let r : ℕ = c.args.rest in
    let whole : 64 ≡ r + (64 - r) = omega arith in
    shr_below c.word.result r (64 - r) (subst (λ k. c.word.result < 2 ^ k) whole c.word.type_inv)
