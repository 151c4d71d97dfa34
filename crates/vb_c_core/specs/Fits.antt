-- Contracts of the checked forms of C functions.
use Rattle.std.specs.Prelude.{◌≡◌, ◌↔◌, ℕ, ◌≤◌, Bool, true, false, List}
use Rattle.vb_bits.specs.Bits.{bits, count}
use Rattle.vb_bits.specs.InBytes.{InBytes}

-- the result of a checked form: true exactly if its arguments are good, and then `done` holds; else
-- `kept` holds, which says that nothing changed
pub record DoneIf (good done kept : Type 0) (result : Bool) : Type 0 where
  pub fits : (result ≡ true) ↔ good
  pub ok : result ≡ true → done
  pub refused : result ≡ false → kept

-- a mask of n bits from bit m on is in its bytes, and has at most `room` ones
pub record KeptFits (mask : List ℕ) (m n room : ℕ) : Type 0 where
  pub window : InBytes mask m n
  pub few : count (bits mask m n) ≤ room
