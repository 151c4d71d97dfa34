-- The value of a buffer after a loan of it has ended.
use Rattle.std.specs.Prelude.{◌≡◌, Result}
use Rattle.std.specs.Borrow.{LendsIfOk, LendsSoOk, MutBor, Fml, RattleType}
use Rattle.std.specs.declared.alloc.Allocator.{Ghosts as OfAllocator}
use Rattle.vb_core.specs.declared.element.Element.{Ghosts as OfElement}
use Rattle.vb_mem.specs.Content.{with_stored}
use Rattle.vb_mem.specs.OpenBuffer.{OpenBuffer}
use Rattle.vb_mem.specs.SharedBuffer.{SharedBuffer, as_shared, KeepsItems}
use Rattle.vb_mem.specs.declared.content.Content.{Content}
use Rattle.vb_mem.specs.contracts.content.Content.{the_row as content_row}
use Rattle.vb_mem.specs.contracts.buffer.Buffer.{the_row as shared_row}
use Rattle.vb_mem.specs.contracts.buffer_mut.BufferMut.{the_row as open_row}

module _ (T A : RattleType) (t : OfElement T.Denot) (a : OfAllocator A.Denot) where
  -- the storage has the value that the reference had last; on `Err` nothing changed
  abbrev pub LendsStorage : {E : Type 0} → MutBor (Content T.Denot A.Denot)
      → Result (MutBor (OpenBuffer T.Denot)) E → Fml
  LendsStorage content lent =
      LendsIfOk (content_row T A t a) (open_row T A t a) content lent
      (with_stored content.now) content.now

  -- the buffer shows the value that the reference had last; on `Err` it keeps its items
  abbrev pub LendsAll : {E : Type 0} → MutBor (SharedBuffer T.Denot)
      → Result (MutBor (OpenBuffer T.Denot)) E → Fml
  LendsAll buffer lent =
      LendsSoOk (shared_row T A t a) (open_row T A t a) buffer lent
      (λ b growing. b ≡ as_shared growing) (KeepsItems buffer.now)
