-- Consequences of `Makes` and `Holds`.
use Rattle.std.proofs.Common.{ℕ, ◌<◌, List, length, Result, Ok, Err, subst, sym, ◌∙◌}
use Rattle.vb_core.specs.declared.error.BufferError.{BufferError}
use Rattle.vb_mem.specs.Makes.{Makes}
use Rattle.vb_mem.specs.OpenBuffer.{OpenBuffer, Holds}
use Rattle.vb_mem.specs.SharedBuffer.{SharedBuffer, Shows}

-- a property that follows from P holds of each value that was made
pub Makes-map : {T : Type 0} (P Q : T → Type 0) (result : Result T BufferError)
    → ((b : T) → P b → Q b) → Makes P result → Makes Q result
Makes-map P Q (Ok b) f made = record { ok = f b made.ok; refused = made.refused }
Makes-map P Q (Err e) f made = record { ok = tt; refused = made.refused }

-- a buffer shows the items of a growing buffer once that one is frozen
pub Shows-held : {T : Type 0} (items : List T) (reported kept : ℕ) (growing : OpenBuffer T)
    (b : SharedBuffer T) → Holds items reported kept growing
    → Shows growing.list growing.alignment 0 growing.declared b
    → Shows items reported 0 kept b
Shows-held items reported kept growing b holds shows = record {
  list = shows.list ∙ holds.list;
  alignment = shows.alignment ∙ holds.alignment;
  place = λ some. shows.place (subst (λ l. 0 < length l) (sym holds.list) some);
  declared = λ some.
      shows.declared (subst (λ l. 0 < length l) (sym holds.list) some) ∙ holds.declared;
}
