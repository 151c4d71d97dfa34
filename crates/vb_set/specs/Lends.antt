-- The value of a set after a loan of its bytes has ended.
use Rattle.std.specs.Prelude.{ℕ, List}
use Rattle.std.specs.Borrow.{Lends, Fml, RattleType, MutBor, Array, u8}
use Rattle.std.specs.declared.alloc.Allocator.{Ghosts}
use Rattle.std.specs.declared.clone.Clone as clone
use Rattle.vb_set.specs.OpenSet.{OpenSet, with_bytes}
use Rattle.vb_set.specs.contracts.bit_buffer_mut.BitBufferMut.{the_row}

-- the set has the bytes that the loan leaves
module _ (A : RattleType) (alloc : Ghosts A.Denot) (clone : clone.Ghosts A.Denot) where
  abbrev pub LendsBytes : MutBor OpenSet → MutBor (List ℕ) → Fml
  LendsBytes set bytes = Lends (the_row A alloc clone) (Array u8 0) set bytes (with_bytes set.now)
