-- Written by tools/write-lists from tools/families/allocators.txt.

-- Returns a block to the inner allocator, through a `&` to the field. Assumes `Logic`.
use Rattle.vb_testing.proofs.Steps.{◌≡◌, [], ◌∷◌, refl, sym, subst, w64, proved, after, Al, token}
use Rattle.vb_testing.proofs.Steps.{Gives, at_gives, Gives-goes, Gives-Gives, fst∗, never, Fml}
use Rattle.vb_testing.proofs.Steps.{ftrue, flft, ◌⊑◌, ⊑_trans, fact, tables, T, inst_fn, Fn}
use Rattle.vb_testing.proofs.Steps.{ty_unit, named, Val, vunit, vint, vptr, has_ty, WT, WpFn, ‵}
use Rattle.vb_testing.proofs.Steps.{raw, ◌⊛◌, later, given, prop, at_ret, ◌$◌, ◌∵◌, !, qed, done}
use Rattle.vb_testing.proofs.Steps.{move, keep, use1, split, split3, join, fsplit, feq_i, learn}
use Rattle.vb_testing.proofs.Steps.{await, regoal, suffices, group, enter, of_opd, unit_lit, addr}
use Rattle.vb_testing.proofs.Steps.{stop, fld, no_more, and_then, first, blocks, exec, returns}
use Rattle.vb_testing.proofs.Steps.{alloc_all, pass_all, free_all, look_at, get, through, sets}
use Rattle.vb_testing.proofs.Steps.{lands_last, env, sem, usize, RawPtr, RefOf, yes, hidden_shr}
use Rattle.vb_testing.proofs.Steps.{param, uint_vals, uint_Tells, owns, Ptr, block_ptr, null_ptr}
use Rattle.vb_testing.proofs.Steps.{in_a_block, rawptr_vals, rawptr_Tells, ptr_val, shr_vals}
use Rattle.vb_testing.proofs.Steps.{shr_Tells, Slot, plain, types_at, heard, nothing, calls_at_last}
use Rattle.vb_testing.proofs.Steps.{Ended, framed, Stays, walk_of, stay_dropped, Goes-dropped}
use Rattle.vb_testing.proofs.Steps.{ends_at}
use Rattle.std.specs.Allocator.{owned_block, HasLayout}
use Rattle.vb_testing.proofs.Within.{argument, inner_at, handle_shares}
use Rattle.vb_testing.specs.contracts.handle.Handle.{the_row}
use Rattle.vb_testing.specs.contracts.handle.HandleAllocator.deallocate as f
use Rattle.vb_testing.proofs.handle.HandleAllocator.deallocate.Statement.{statement}
use Rattle.vb_testing.proofs.handle.HandleAllocator.deallocate.Code as code

module _ (Z : Al) where
  abbrev self : Slot 2
  self = RefOf (0 ∷ []) tt (plain (λ _. the_row (param 0 Z.row))) (λ _. tt)

  abbrev ended : Ended
  ended = f.ended Z.row Z.g Z.d Z.drops

  abbrev stayed : Stays ended.signature.params ended.kept
  stayed = (
    stay_dropped self yes,
    (
      stay_dropped (plain (λ _. RawPtr)) yes,
      (stay_dropped (plain (λ _. usize)) yes, (stay_dropped (plain (λ _. usize)) yes, tt)),
    ),
  )

  abbrev body : Fn
  body = inst_fn (argument Z) code.function

pub deallocate_spec : {M : Type 1} → statement M
deallocate_spec 𝓤 𝓛 𝓜 𝓡 wired B L g d dd met md =
    let Z : Al = record { row = B; laws = L; g = g; d = d; drops = dd } in
    let c = f.clauses B g d dd 𝓛 𝓜.mem 𝓡.returns in
    let W = walk_of 𝓛 (ended Z) (stayed Z) c in
    let 𝓣 = tables 𝓤 𝓛.H 𝓜 𝓡 𝓡.env in
    let number = Goes-dropped 𝓛 2 (plain (λ _. usize)) yes (λ κs x w. refl) in
    proved 𝓛 (ended Z) (stayed Z) c 𝓜 𝓡 (
      Goes-dropped 𝓛 2 (self Z) yes (λ κs x w. refl),
      (Goes-dropped 𝓛 2 (plain (λ _. RawPtr)) yes (λ κs x w. refl), (number, (number, tt))),
    )
    (f.Key.name (argument Z)) (body Z) (code.unfolded 𝓤 𝓛.H 𝓜 𝓡 wired (B, tt) d dd)
    (λ κs. (shr_vals, (rawptr_vals, (uint_vals w64, (uint_vals w64, tt)))))
    (λ κs. (
      shr_Tells (named 0) κs.0 (the_row (param 0 B)),
      (rawptr_Tells, (uint_Tells w64, (uint_Tells w64, tt))),
    ))
    (λ κs qs bounds a τ are.
    let κ = κs.0 in
    let ρ = κs.1.0 in
    let b = a.0.ref_ptr.0 in
    let o = a.0.ref_ptr.1 in
    let heap = a.0.now in
    let size = a.1.1.0 in let alignment = a.1.1.1.0 in
    let y : Ptr → W.Ghost = λ p. (
      (
        κs,
        qs,
        bounds,
        (a.0, (p, a.1.1)),
        (shr_vals a.0, (rawptr_vals p, (uint_vals w64 size, (uint_vals w64 alignment, tt)))),
      ),
      τ,
    ) in
    let block : Ptr → Fml = owned_block (token Z heap.inner) τ in
    qed 𝓛 (((‵ (flft κ qs.0) ⊛ ‵ (flft ρ qs.1.0) ⊛ ‵ ftrue) ⊛ ‵
    (owns (types_at (ended Z).signature.params κs) a (y a.1.0).0.4))
    ∷ (raw (fact 𝓤 (ρ ⊑ B.lives)) ⊛ raw (fact 𝓤 (HasLayout τ size alignment)) ⊛ ‵ (block a.1.0))
    ∷ []) ∵
    move ! (1 ∷ []) $ split3 ! $ heard ! _ (λ outlives. heard ! _ (λ laid. move !
    (1 ∷ []) $ split ! $ split3 ! $ move ! (3 ∷ []) $ fsplit ! $ fsplit ! $ move ! (1 ∷ []) $
    use1 𝓛 (‵ (hidden_shr B κ heap.inner b (inner_at B o))) (handle_shares 𝓛 B κ heap b o) $
    keep ! (6 ∷ 0 ∷ 3 ∷ 4 ∷ []) $
    -- [the block; the `&` to the allocator within; the tokens]
    in_a_block ! a.1.0 block (fst∗ 𝓤 (never 𝓤) (sem 𝓛 (token Z heap.inner τ null_ptr))) (λ m i e.
    regoal ! (λ p. prop (WpFn 𝓤 𝓛.H 𝓣.C 𝓣.Λ (body Z)
    (vptr b o ∷ ptr_val p ∷ vint w64 size ∷ vint w64 alignment ∷ []) (W.post (y p)))) e refl $
    let G = Gives Z 𝓛 𝓜.mem 𝓡.returns in
    let z : G.Ghost =
    at_gives Z 𝓛 𝓜.mem 𝓡.returns κ qs.0 (b, inner_at B o) heap.inner m i size alignment τ in
    enter ! _ _ _ _ _ $ alloc_all ! (λ l. pass_all ! refl (
      (tt, tt),
      (
        (tt, tt),
        ((tt, record { fits = are.1.1.0.1 }), ((tt, record { fits = are.1.1.1.0.1 }), tt)),
      ),
    ) $
    first ! $ blocks ! $ sets ! (addr ! (through ! refl (fld ! refl (stop !)))) refl (tt, tt) $
    fsplit ! $ move !
    (2 ∷ 3 ∷ []) $ join ! $ move ! (2 ∷ 0 ∷ []) $ join ! $ move ! (1 ∷ 0 ∷ []) $ join ! $
    use1 𝓛 (raw (G.pre z))
    (Gives-goes Z 𝓛 𝓜.mem 𝓡.returns κ qs.0 (b, inner_at B o) heap.inner (⊑_trans κ
    ρ B.lives bounds.0 outlives) m i size alignment τ laid.0 laid.1 are.1.1.0.1 are.1.1.1.0.1) $
    calls_at_last ! (framed 𝓤 𝓛.H 𝓜 𝓣) G (met.deallocate dd) z (and_then ! (get ! refl) (and_then !
    (get ! refl) (and_then ! (get ! refl) (and_then ! (get ! refl) (no_more !))))) (λ v.
    use1 𝓛 (later (given (v ≡ vunit) (‵ (flft κ qs.0)))) (Gives-Gives Z 𝓛 𝓜.mem 𝓡.returns κ qs.0
    (b, inner_at B o) heap.inner m i size alignment τ v) $ await ! tt $ learn ! (λ is_unit.
    lands_last ! refl (subst (λ (u : Val). T (has_ty ty_unit u) × WT u) (sym is_unit) (tt, tt)) $
    exec ! 𝓣.C 𝓣.Λ
    (env (body Z).locals l) (after 1 (body Z).body) (at_ret _ (W.post (y (block_ptr m i)))) $
    sets ! (of_opd ! (unit_lit !)) refl (tt, tt) $ returns ! (look_at ! 0 refl) $ free_all ! refl $
    suffices ! _ (ends_at 𝓛 (ended Z) (stayed Z) c
    (y (block_ptr m i)) vunit tt (tt, (tt, (tt, (tt, tt)))) (tt, (tt, (tt, (tt, tt))))) $
    nothing ! $ feq_i ! _ (vunit ∷ []) _ refl $ nothing
    ! $ nothing ! $ join ! $ nothing ! $ join ! $ nothing ! $ join ! $ nothing ! $ join ! $
    nothing ! $ move !
    (5 ∷ 0 ∷ []) $ join ! $ move ! (4 ∷ 0 ∷ []) $ join ! $ group ! 3 $ done !)))))))
