-- The contracts of counts and sums by group.
use Rattle.std.specs.Prelude.{◌≡◌, ℕ, ℤ, ◌+◌, ◌%◌, ◌^◌, ◌<◌, true, false, Bool, List, length}
use Rattle.std.specs.Prelude.{Option, slice_index_or}
use Rattle.std.specs.List.{zip}
use Rattle.vb_c_core.specs.declared.taken.Taken.{Taken}
use Rattle.vb_group.specs.Groups.{AddsRows, HaveGroups, IsFirstPast, codes_of, selected}

-- either each selected code is that of a group; or the result is the first selected row whose code
-- isn't, and nothing is changed
pub record InGroups {C T : Type 0} (number : C → ℤ) (codes : List C) (mask : Option (List Bool))
    (old new : List T) (answer : Taken) : Type 0 where
  pub groups : answer.out_of_range ≡ false
      → HaveGroups number (length old) codes mask (length codes)
  pub past : answer.out_of_range ≡ true
      → IsFirstPast number (length old) codes mask answer.position
  pub unchanged : answer.out_of_range ≡ true → new ≡ old

-- each count has the number of selected rows of its group added, modulo 2^64
pub record CountsGroups {C : Type 0} (number : C → ℤ) (codes : List C)
    (mask : Option (List Bool)) (old new : List ℕ) (answer : Taken) : Type 0 where
  pub counted : answer.out_of_range ≡ false → (g : ℕ) → g < length old
      → slice_index_or new g 0 % 2 ^ 64
      ≡ (slice_index_or old g 0 + length (codes_of number g (selected mask codes))) % 2 ^ 64
  pub in_groups : InGroups number codes mask old new answer

-- each sum has the selected values of its group added
pub record SumsGroups {C V T : Type 0} (number : C → ℤ) (plus : T → V → T) (codes : List C)
    (values : List V) (mask : Option (List Bool)) (old new : List T) (answer : Taken) : Type 0 where
  pub summed : answer.out_of_range ≡ false
      → AddsRows number plus old new (selected mask (zip codes values))
  pub in_groups : InGroups number codes mask old new answer
