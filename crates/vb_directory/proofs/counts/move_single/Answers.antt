use Rattle.std.proofs.Common.{◌≡◌, ℕ, Bool, List, ◌+◌, ◌-◌, ◌*◌, ◌/◌, ◌%◌, ◌^◌, ◌<◌, ◌≤◌, cond}
use Rattle.std.proofs.Common.{length, refl, sym, ap, ◌∙◌, arith}
use Rattle.vb_directory.specs.Counts.{count_before_group, count_in_group}
use Rattle.vb_directory.proofs.CountsLemmas.{at-count_in_group, before-same, within-same}
use Rattle.vb_directory.proofs.CountEditsLemmas.{AreCounts-set}
use Rattle.vb_directory.proofs.counts.move_single.Goals as goal
use Rattle.vb_directory.proofs.counts.move_single.Goals.{then-up, else-up}

pub returns-clause-moved : goal.returns-clause-moved
returns-clause-moved c = λ l p fits bit was.
    let e : List ℕ = c.args.numbers.now in
    let i : ℕ = c.args.i in
    let v : Bool = c.args.up in let s : ℕ = c.if-up.narrow in
    let d : List ℕ = c.add_within.new.numbers in
    let single : i < 65536 = omega (arith, bit, p.long, c.requires) in
    let narrow : s ≡ cond v 1 65535 = elim c.if-up.branch [
      | then-up u ↦ u.narrow-is ∙ sym (ap (λ b. cond b 1 65535) u.if-up.true)
      | else-up u ↦ u.narrow-is ∙ sym (ap (λ b. cond b 1 65535) u.if-up.false)
    ] in
    let before : (k : ℕ) → k ≤ i / 65536 → count_before_group d k ≡ count_before_group e k =
    λ k own. before-same e d k (λ n low high. c.add_within.ensures.before n
    (omega (arith, low, high, own, single))) in
    let low : (k j : ℕ) → k ≡ i / 65536 → j ≤ i / 512 % 128
    → count_in_group d k j ≡ count_in_group e k j =
    λ k j here own. within-same e d k j (λ some.
    c.add_within.ensures.before (131 * k + 3 + j) (omega (arith, here, own, single))) in
    let high : (k j : ℕ) → k ≡ i / 65536 → i / 512 % 128 < j → j < 128
    → 131 * k + 3 + j < length e → count_in_group d k j ≡ (count_in_group e k j + s) % 2 ^ 16 =
    λ k j here after small inside. at-count_in_group d k j (omega (arith, after))
    ∙ c.add_within.ensures.moved (131 * k + 3 + j) (omega (arith, here, after, single))
    (omega (arith, inside))
    ∙ ap (λ x. (x + s) % 2 ^ 16) (sym (at-count_in_group e k j (omega (arith, after)))) in
    AreCounts-set l e d i s (cond v 1 (2 ^ 64 - 1)) v p bit was fits narrow refl
    c.add_within.ensures.len before
    (λ k behind inside. absurd (omega (arith, behind, inside, c.requires)))
    (λ k j small no. within-same e d k j (λ some. c.add_within.ensures.behind (131 * k + 3 + j)
    (omega (arith, no, single, c.requires))))
    low high
