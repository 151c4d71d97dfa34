use Rattle.std.proofs.Common.{◌≡◌, ℕ, List, ◌+◌, ◌-◌, ◌/◌, ◌%◌, ◌^◌, ◌++◌, ◌∷◌, [], sym, ap, ◌∙◌}
use Rattle.std.proofs.Common.{arith, subst}
use Rattle.vb_directory.specs.Counts.{AreCounts, count_before_group}
use Rattle.vb_directory.proofs.CountEditsLemmas.{AreCounts-push_group, AreCounts-push_within}
use Rattle.vb_directory.proofs.counts.push_count.Goals as goal

pub returns-then-block-eq0-clause-pushed : goal.returns-then-block-eq0-clause-pushed
returns-then-block-eq0-clause-pushed g c = λ l m p whole total fits front more few.
    subst (AreCounts m) (sym c.push_before.ensures.items)
    (AreCounts-push_group l m c.args.numbers.now.items c.args.block c.args.ones p whole
    (omega (arith, c.if-block-eq0.true)) total fits front more few)

pub returns-else-block-eq0-clause-pushed : goal.returns-else-block-eq0-clause-pushed
returns-else-block-eq0-clause-pushed g c = λ l m p whole total fits front more few.
    let items : List ℕ = c.args.numbers.now.items in
    let k : ℕ = c.args.block / 128 in
    let before : c.before_group-before.result ≡ count_before_group items k =
    c.before_group-before.ensures ∙ ap (λ x. count_before_group x k) c.as_slice.ensures.value in
    subst (AreCounts m) (sym (c.push_reserved.ensures.items
    ∙ ap (λ x. items ++ (c.args.ones + (2 ^ 64 - x)) % 2 ^ 64 % 65536 ∷ []) before))
    (AreCounts-push_within l m items c.args.block c.args.ones p whole
    (omega (arith, c.if-block-eq0.false)) total fits front more few)
