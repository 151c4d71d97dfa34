-- The names that the walks of the allocators cite.
pub use Rattle.std.proofs.Common.{◌≡◌, ◌^◌, ℕ, [], ◌∷◌, refl, ap, sym, subst, w64}
pub use Rattle.std.proofs.raw_atomic.Walks.{proved}
pub use Rattle.std.proofs.VecSteps.Shapes.{after}
pub use Rattle.std.proofs.alloc.Calls.{Al, token, Takes, at_takes, Answered, Takes-goes}
pub use Rattle.std.proofs.alloc.Calls.{Takes-gives, Answer, answer_val, Answer-typed, Gives}
pub use Rattle.std.proofs.alloc.Calls.{at_gives, Gives-goes, Gives-Gives}
pub use base.Logic.{id⊢, fst∗, never}
pub use base.Fml.{Fml, ftrue, flft}
pub use contract.BorrowLft.{◌⊑◌, ⊑_trans}
pub use contract.Monad.{fact}
pub use contract.Running.{tables}
pub use lib.Dec.{T}
pub use mir.MapTy.{inst_fn}
pub use mir.Syntax.{Fn, ty_unit, named}
pub use mir.Val.{Val, vunit, vint, vptr, has_ty, WT}
pub use prog.Wp.{WpFn}
pub use types.Kit.{‵, raw, ◌⊛◌, some, later, given, prop, at_ret, Sq, ◌$◌, ◌∵◌, !, qed, done, move}
pub use types.Kit.{keep, drop, use0, use1, use2, split, split3, join, fsplit, fjoin, feq_i, feq_l}
pub use types.Kit.{flt_i, pick, learn, await, regoal, suffices, group}
pub use types.Run.{enter, of_opd, lit, unit_lit, addr, stop, fld, no_more, and_then, first, blocks}
pub use types.Run.{branches, skips, exec, returns, returns_within}
pub use types.ByLocal.{alloc_all, pass_all, free_all, look_at, get, through, sets, lands_as}
pub use types.ByLocal.{lands_last, env}
pub use types.Logic.{sem}
pub use types.Part.{agg}
pub use denote.Builtin.{usize, bool, RawPtr, RefOf}
pub use denote.Exit.{yes}
pub use denote.Memory.{hidden_shr}
pub use denote.Param.{param}
pub use denote.Plain.{uint_vals, uint_Tells}
pub use denote.RattleType.{owns}
pub use denote.RawPtr.{Ptr, block_ptr, null_ptr, in_a_block, ptr_val, rawptr_vals, rawptr_Tells}
pub use denote.Ref.{shr_vals, shr_Tells}
pub use denote.Signature.{Slot, plain, types_at}
pub use denote.Steps.{heard, nothing, only}
pub use denote.Triple.Call.{calls_at, calls_at_last}
pub use denote.Triple.Clauses.{Ended, lasts}
pub use denote.Triple.Spec.{triple_of}
pub use denote.Triple.Table.{framed}
pub use denote.Triple.Walked.{Stays, walk_of, stay_dropped, Goes-dropped, ends_at}
