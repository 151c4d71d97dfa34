-- Bits gathered at indices, and bits set at indices.
use Rattle.std.proofs.Common.{◌≡◌, ℕ, Bool, true, List, length, get_or}
use Rattle.std.proofs.Common.{Option, Some, None}
use Rattle.std.specs.Prelude.{◌<◌, nat_lt, All}
use Rattle.std.specs.Option.{ForSome}
use Rattle.std.proofs.lemmas.Bool.{eqb-true, ltb-true}
use Rattle.std.proofs.lemmas.List.Elements.{All-from_get_or}
use Rattle.std.proofs.lemmas.List.Sums.{AllPass-from_list_all}
use Rattle.std.proofs.lemmas.Option.{none-some}
use Rattle.vb_command.specs.Machine.{all_below, is_as_long}

-- each index is below n if the test says so
pub below_all : (n : ℕ) (places : List ℕ) → all_below n places ≡ true → All (λ p. p < n) places
below_all n places below =
    let passes = AllPass-from_list_all (λ p. nat_lt p n) places below in
    All-from_get_or (λ p. p < n) places 0
    (λ i within. ltb-true (get_or places i 0) n (passes i 0 within))

-- a validity with one bit for each index
pub validity_fits : (n : ℕ) (validity : Option (List Bool))
    → is_as_long n validity ≡ true → ForSome validity (λ v. length v ≡ n)
validity_fits n None long = λ x is. absurd (none-some x is)
validity_fits n (Some v) long = λ x is. let same : length v ≡ n = eqb-true _ _ long in cc

-- the validity of indices, for `#[tactic(auto, using(..))]`
pub ruleset validities = (validity_fits)
