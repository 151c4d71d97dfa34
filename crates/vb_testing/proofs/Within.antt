-- Lemmas for the walks of an allocator that wraps another one: about the `&` to the inner
-- allocator, and about its result. Assumes `Logic`.
use Rattle.std.proofs.Common.{ℕ, ◌+◌, [], ◌∷◌}
use mathlib.Core.Bool.{Bool, true, false}
use seplogic.Ra.Ura.{Ura}
use base.Logic.{ent, sep, id⊢}
use base.Fml.{Lft, Fml}
use mir.Syntax.{Ty, Args, a_type, dnil, dcons}
use prog.Memory.{size, align, up}
use types.Logic.{Logic, sem}
use types.Kit.{‵, ◌$◌, ◌∵◌, !, qed, done, keep, move, fsplit}
use denote.Memory.{lone, hidden_shr, shared_of}
use denote.Param.{bounded, param}
use denote.RattleType.{RattleType}
use denote.RawPtr.{Ptr}
use Rattle.std.specs.Allocator.{block_if_ok}
use Rattle.std.proofs.alloc.Calls.{Al, got}
use Rattle.std.proofs.alloc.Resizes.{result_of}
use Rattle.vb_testing.specs.declared.handle.Handle.{Handle}
use Rattle.vb_testing.specs.contracts.handle.Handle.{the_row as handle_row}
use Rattle.vb_testing.specs.declared.refusing.Refusing.{Refusing}
use Rattle.vb_testing.specs.contracts.refusing.Refusing.{the_row as refusing_row}
use Rattle.vb_testing.specs.contracts.refusing.Requests.{the_row as requests_row}

-- the type argument of the outer allocator, with its methods
abbrev pub argument : Al → Args
argument Z = bounded (a_type ∷ []) (Z.row, tt) (dcons Z.d (dcons Z.drops dnil))

-- the offset of a field that comes after e bytes
abbrev field_after : RattleType → ℕ → ℕ
field_after R e = up (align (lone R.mir)) e

module _ (B : RattleType) where
  -- the offsets of the inner allocator and of the requests
  abbrev pub inner_at : ℕ → ℕ
  inner_at o = o + field_after B 0

  abbrev pub requests_at : ℕ → ℕ
  requests_at o = o + field_after requests_row (field_after B 0 + size (lone B.mir))

module _ {M : Type 1} {𝓤 : Ura M} (𝓛 : Logic 𝓤) where
  -- a `&` to a `Refusing` contains one to the inner allocator and one to the requests
  pub refusing_shares : (B : RattleType) (κ : Lft) (heap : Refusing B.Denot) (b o : ℕ)
      → ent 𝓤 (sem 𝓛 (hidden_shr (refusing_row (param 0 B)) κ heap b o))
      (sep 𝓤 (sem 𝓛 (hidden_shr B κ heap.inner b (inner_at B o)))
      (sem 𝓛 (hidden_shr requests_row κ heap.requests b (requests_at B o))))
  refusing_shares B κ heap b o = qed 𝓛 (‵ (shared_of (refusing_row (param 0 B)) heap b o κ) ∷ []) ∵
      fsplit ! $ fsplit ! $ move ! (1 ∷ []) $ fsplit ! $ keep ! (2 ∷ 0 ∷ []) $ done !

  -- a `&` to a `Handle` contains one to the inner allocator
  pub handle_shares : (B : RattleType) (κ : Lft) (handle : Handle B.Denot) (b o : ℕ)
      → ent 𝓤 (sem 𝓛 (hidden_shr (handle_row (param 0 B)) κ handle b o))
      (sem 𝓛 (hidden_shr B κ handle.inner b (inner_at B o)))
  handle_shares B κ handle b o = qed 𝓛 (‵ (shared_of (handle_row (param 0 B)) handle b o κ) ∷ []) ∵
      fsplit ! $ fsplit ! $ keep ! (0 ∷ []) $ done !

  -- an assertion about the result of the inner allocator holds for the same result of the outer one
  pub passes_on : (holds : Ty → Ptr → Fml) (τ : Ty) (is_ok : Bool) (b o : ℕ)
      → ent 𝓤 (sem 𝓛 (got holds τ is_ok b o)) (sem 𝓛 (block_if_ok holds τ (result_of is_ok b o)))
  passes_on holds τ true b o = id⊢ 𝓤 _
  passes_on holds τ false b o = id⊢ 𝓤 _
