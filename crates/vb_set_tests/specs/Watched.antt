-- Iterators whose number of items is one of their fields. The law of `TrustedLen` cites the lemma,
-- and so it is in specs.
use Rattle.std.specs.Prelude.{ℕ, ⊤, Option}
use Rattle.std.specs.Iterator.{at_most}
use Rattle.vb_core.specs.ExactCounts.{exact_count}
use Rattle.vb_core.specs.Lengths.{IsExactCount, CountsDown}

-- each item leaves one less
pub counted_down : {S A : Type 0} (left : S → ℕ)
    → IsExactCount (λ (s : S) (r : Option A) (t : S). CountsDown ⊤ (left s) r (left t))
    (λ s. at_most (left s)) left
counted_down left =
    exact_count (λ s r t. CountsDown ⊤ (left s) r (left t)) (λ s. at_most (left s)) left
    (λ s item t step. step.0)
    (λ s t step. step.0)
    (λ s. tt)
