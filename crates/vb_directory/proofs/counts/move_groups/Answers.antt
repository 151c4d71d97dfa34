use Rattle.std.proofs.Common.{◌≡◌, ◌≢◌, ℕ, Bool, List, ◌+◌, ◌-◌, ◌*◌, ◌/◌, ◌%◌, ◌^◌, ◌<◌, ◌≤◌, cond}
use Rattle.std.proofs.Common.{length, min, sym, ap, ◌∙◌, arith, ⊎_elim}
use Rattle.std.proofs.lemmas.Bool.{cases_lt}
use Rattle.vb_directory.specs.Counts.{count_before_group, count_in_group}
use Rattle.vb_directory.proofs.CountsLemmas.{at-count_in_group, before-same, within-same}
use Rattle.vb_directory.proofs.CountEditsLemmas.{AreCounts-set}
use Rattle.vb_directory.proofs.counts.move_groups.Goals as goal
use Rattle.vb_directory.proofs.counts.move_groups.Goals.{then-up, else-up, then-up-2, else-up-2}

pub returns-clause-moved : goal.returns-clause-moved
returns-clause-moved c = λ l p fits bit was.
    let e : List ℕ = c.args.numbers.now in
    let i : ℕ = c.args.i in let g : ℕ = i / 65536 in let block : ℕ = i / 512 % 128 in
    let v : Bool = c.args.up in
    let s : ℕ = c.if-up.narrow in let w : ℕ = c.if-up-2.wide in
    let d : List ℕ = c.add_within.new.numbers in
    let from : ℕ = 131 * g + 4 + block in
    let end : c.min-end.result ≡ min (131 * g + 131) (length e) =
    omega (arith, c.min-end.ensures) in
    let narrow : s ≡ cond v 1 65535 = elim c.if-up.branch [
      | then-up u ↦ u.narrow-is ∙ sym (ap (λ b. cond b 1 65535) u.if-up.true)
      | else-up u ↦ u.narrow-is ∙ sym (ap (λ b. cond b 1 65535) u.if-up.false)
    ] in
    let wide : w ≡ cond v 1 (2 ^ 64 - 1) = elim c.if-up-2.branch [
      | then-up-2 u ↦ u.wide-is ∙ sym (ap (λ b. cond b 1 (2 ^ 64 - 1)) u.if-up-2.true)
      | else-up-2 u ↦ u.wide-is ∙ sym (ap (λ b. cond b 1 (2 ^ 64 - 1)) u.if-up-2.false)
    ] in
    let before : (k : ℕ) → count_before_group d k ≡ count_before_group e k = λ k.
    before-same e d k (λ n low high. ⊎_elim
    (λ (front : n < from). c.add_within.ensures.before n front)
    (λ (back : from ≤ n). c.add_within.ensures.behind n (omega (arith, low, high, back, end)))
    (cases_lt n from)) in
    let other : (k j : ℕ) → j < 128 → k ≢ g → count_in_group d k j ≡ count_in_group e k j =
    λ k j small no. within-same e d k j (λ some. ⊎_elim
    (λ (less : k < g). c.add_within.ensures.before (131 * k + 3 + j) (omega (arith, less, small)))
    (λ (more : g ≤ k). c.add_within.ensures.behind (131 * k + 3 + j)
    (omega (arith, more, no, some, end)))
    (cases_lt k g)) in
    let low : (k j : ℕ) → k ≡ g → j ≤ block → count_in_group d k j ≡ count_in_group e k j =
    λ k j here own. within-same e d k j (λ some.
    c.add_within.ensures.before (131 * k + 3 + j) (omega (arith, here, own))) in
    let high : (k j : ℕ) → k ≡ g → block < j → j < 128 → 131 * k + 3 + j < length e
    → count_in_group d k j ≡ (count_in_group e k j + s) % 2 ^ 16 =
    λ k j here after small inside. at-count_in_group d k j (omega (arith, after))
    ∙ c.add_within.ensures.moved (131 * k + 3 + j) (omega (arith, here, after))
    (omega (arith, here, small, inside, end))
    ∙ ap (λ x. (x + s) % 2 ^ 16) (sym (at-count_in_group e k j (omega (arith, after)))) in
    AreCounts-set l e c.add_before.new.numbers i s w v p bit was fits narrow wide
    (c.add_before.ensures.len ∙ c.add_within.ensures.len)
    (λ k to. c.add_before.ensures.before k (omega (arith, to)) ∙ before k)
    (λ k behind inside. c.add_before.ensures.moved k (omega (arith, behind))
    (omega (arith, inside, c.add_within.ensures.len))
    ∙ ap (λ x. (x + w) % 2 ^ 64) (before k))
    (λ k j small no. c.add_before.ensures.within k j small ∙ other k j small no)
    (λ k j here own. c.add_before.ensures.within k j (omega (arith, own)) ∙ low k j here own)
    (λ k j here after small inside. c.add_before.ensures.within k j small
    ∙ high k j here after small inside)
