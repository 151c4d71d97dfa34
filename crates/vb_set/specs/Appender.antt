-- The parts of a `BitAppender` that contracts see, and what was appended by it.
use Rattle.std.specs.Prelude.{◌≡◌, ◌+◌, ◌^◌, ◌<◌, ◌≤◌, Bool, List, ◌++◌, length}
use Rattle.std.specs.Borrow.{MutBor}
use Rattle.std.specs.declared.clone.Clone.{Ghosts}
use Rattle.vb_bits.specs.Digits.{digits}
use Rattle.vb_set.specs.OpenSet.{OpenSet, AddsBits, KeepsStart}
use Rattle.vb_set.specs.declared.bit_appender.BitAppender.{BitAppender}

module _ {A : Type 0} {g : Ghosts A} where
  -- the `&mut` to the set
  abbrev pub target_of : BitAppender A g → MutBor OpenSet
  target_of a = a.set

  -- the set, as it is in memory
  abbrev pub set_of : BitAppender A g → OpenSet
  set_of a = a.set.now

  -- the bits that are appended and not yet written to the set
  abbrev pub pending_of : BitAppender A g → List Bool
  pending_of a = digits a.word 0 a.count

  -- there is capacity for as many bits as may be pending, and their end fits in 64 bits
  pub record IsReady (a : BitAppender A g) : Type 0 where
    pub room : length (set_of a).bits + a.limit ≤ (set_of a).room
    pub fits : (set_of a).offset + length (set_of a).bits + a.limit < 2 ^ 64

  -- these bits were appended since the set was `start`: the first ones are in the set, the others
  -- are pending
  pub record HasAdded (start : OpenSet) (added : List Bool) (a : BitAppender A g) : Type 0 where
    pub written : List Bool
    pub adds : AddsBits written start (set_of a)
    pub all : written ++ pending_of a ≡ added
    pub keeps : KeepsStart start (set_of a)
    pub stays : length start.bits + length added ≤ start.room → (set_of a).room ≡ start.room
    pub ready : IsReady a

  -- P holds of each set that the appender may have started from, and of the bits appended since
  abbrev pub SinceAdded : BitAppender A g → (OpenSet → List Bool → Type 0) → Type 0
  SinceAdded a P = (start : OpenSet) (added : List Bool) → HasAdded start added a → P start added
