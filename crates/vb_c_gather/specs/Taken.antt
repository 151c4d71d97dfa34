-- Contracts of takes of bits and of values.
use Rattle.std.specs.Prelude.{◌≡◌, ℕ, ℤ, true, false, Bool, List, Option, length, take, drop}
use Rattle.vb_bits.specs.Bits.{bits}
use Rattle.vb_bits.specs.Writes.{Writes}
use Rattle.vb_take.specs.ItemsTaken.{AreTaken, IsFirstUntaken}
use Rattle.vb_take.specs.Takes.{IsTaken, IsFirstPast}
use Rattle.vb_c_core.specs.declared.taken.Taken.{Taken}

-- either no position is out of range, and the bits from bit o on are those taken, one for each
-- index; or the result is the first position that takes none; every other bit is unchanged
pub record TakesAt (l : List Bool) (indices : List ℤ) (validity : Option (List Bool))
    (old new : List ℕ) (o : ℕ) (answer : Taken) : Type 0 where
  pub taken : answer.out_of_range ≡ false → IsTaken l indices validity (bits new o (length indices))
  pub past : answer.out_of_range ≡ true → IsFirstPast l indices validity answer.position
  pub others : Writes old new o (bits new o (length indices))

-- either no position is out of range, and the items in front are those taken, one for each index;
-- or the result is the first position that takes none; the items after those in front are unchanged
pub record TakesValues {T : Type 0} (zero : T) (values : List T) (indices : List ℤ)
    (validity : Option (List Bool)) (old new : List T) (answer : Taken) : Type 0 where
  pub taken : answer.out_of_range ≡ false
      → AreTaken zero values indices validity (take (length indices) new)
  pub past : answer.out_of_range ≡ true
      → IsFirstUntaken zero values indices validity answer.position
  pub others : drop (length indices) new ≡ drop (length indices) old
