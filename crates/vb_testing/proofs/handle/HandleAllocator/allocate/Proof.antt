-- Forwards a request to the inner allocator, through a `&` to the field. Assumes `Logic`.
use Rattle.vb_testing.proofs.Steps.{◌≡◌, ℕ, [], ◌∷◌, refl, w64, proved, Al, token, Takes, at_takes}
use Rattle.vb_testing.proofs.Steps.{Answered, Takes-goes, Takes-gives, Answer, answer_val}
use Rattle.vb_testing.proofs.Steps.{Answer-typed, id⊢, ftrue, flft, ◌⊑◌, ⊑_trans, fact, tables}
use Rattle.vb_testing.proofs.Steps.{inst_fn, Fn, named, ‵, raw, ◌⊛◌, some, later, given, prop, Sq}
use Rattle.vb_testing.proofs.Steps.{◌$◌, ◌∵◌, !, qed, done, move, keep, use0, use1, use2, split}
use Rattle.vb_testing.proofs.Steps.{split3, join, fsplit, pick, learn, await, suffices, group}
use Rattle.vb_testing.proofs.Steps.{enter, addr, stop, fld, no_more, and_then, returns, alloc_all}
use Rattle.vb_testing.proofs.Steps.{pass_all, free_all, look_at, get, through, sets, lands_as}
use Rattle.vb_testing.proofs.Steps.{usize, RefOf, yes, hidden_shr, param, uint_vals, uint_Tells}
use Rattle.vb_testing.proofs.Steps.{owns, shr_vals, shr_Tells, Slot, plain, types_at, heard}
use Rattle.vb_testing.proofs.Steps.{nothing, calls_at, Ended, framed, Stays, walk_of, stay_dropped}
use Rattle.vb_testing.proofs.Steps.{Goes-dropped, ends_at}
use mathlib.Core.Bool.{Bool}
use Rattle.std.specs.Allocator.{block_if_ok, HasLayout}
use Rattle.std.proofs.alloc.Calls.{got}
use Rattle.std.proofs.alloc.Resizes.{result_of, result_own}
use Rattle.vb_testing.proofs.Within.{argument, inner_at, handle_shares, passes_on}
use Rattle.vb_testing.specs.contracts.handle.Handle.{the_row}
use Rattle.vb_testing.specs.contracts.handle.HandleAllocator.allocate as f
use Rattle.vb_testing.proofs.handle.HandleAllocator.allocate.Statement.{statement}
use Rattle.vb_testing.proofs.handle.HandleAllocator.allocate.Code as code

module _ (Z : Al) where
  abbrev self : Slot 2
  self = RefOf (0 ∷ []) tt (plain (λ _. the_row (param 0 Z.row))) (λ _. tt)

  abbrev ended : Ended
  ended = f.ended Z.row Z.g Z.d Z.drops

  abbrev stayed : Stays ended.signature.params ended.kept
  stayed = (
    stay_dropped self yes,
    (stay_dropped (plain (λ _. usize)) yes, (stay_dropped (plain (λ _. usize)) yes, tt)),
  )

  abbrev body : Fn
  body = inst_fn (argument Z) code.function

pub allocate_spec : {M : Type 1} → statement M
allocate_spec 𝓤 𝓛 𝓜 𝓡 wired B L gs d dd met md =
    let Z : Al = record { row = B; laws = L; g = gs; d = d; drops = dd } in
    let c = f.clauses B gs d dd 𝓛 𝓜.mem 𝓡.returns in
    let W = walk_of 𝓛 (ended Z) (stayed Z) c in
    let 𝓣 = tables 𝓤 𝓛.H 𝓜 𝓡 𝓡.env in
    let number = Goes-dropped 𝓛 2 (plain (λ _. usize)) yes (λ κs x w. refl) in
    proved 𝓛 (ended Z) (stayed Z) c 𝓜 𝓡
    (Goes-dropped 𝓛 2 (self Z) yes (λ κs x w. refl), (number, (number, tt)))
    (f.Key.name (argument Z)) (body Z) (code.unfolded 𝓤 𝓛.H 𝓜 𝓡 wired (B, tt) d dd)
    (λ κs. (shr_vals, (uint_vals w64, (uint_vals w64, tt))))
    (λ κs. (shr_Tells (named 0) κs.0 (the_row (param 0 B)), (uint_Tells w64, (uint_Tells w64, tt))))
    (λ κs qs bounds a τ are.
    let κ = κs.0 in
    let ρ = κs.1.0 in
    let b = a.0.ref_ptr.0 in
    let o = a.0.ref_ptr.1 in
    let handle = a.0.now in
    let size = a.1.0 in let alignment = a.1.1.0 in
    let y : W.Ghost = (
      (κs, qs, bounds, a, (shr_vals a.0, (uint_vals w64 size, (uint_vals w64 alignment, tt)))),
      τ,
    ) in
    let out : (is_ok : Bool) (m i : ℕ)
    → Sq 𝓛 (‵ (block_if_ok (token Z handle.inner) τ (result_of is_ok m i)) ∷ ‵ (flft κ qs.0)
    ∷ ‵ (flft ρ qs.1.0) ∷ []) (prop (W.post y (answer_val is_ok m i))) = λ is_ok m i.
    suffices ! _ (ends_at 𝓛 (ended Z) (stayed Z) c y
    (answer_val is_ok m i) (result_of is_ok m i) (tt, (tt, (tt, tt))) (tt, (tt, (tt, tt)))) $
    use0 𝓛 (‵ (Answer.own_val (result_of is_ok m i) (answer_val is_ok m i ∷ [])))
    (result_own 𝓛 is_ok m i) $
    nothing ! $ nothing ! $ join ! $ nothing ! $ join ! $ nothing ! $ join ! $
    nothing ! $ move ! (5 ∷ 0 ∷ []) $ join ! $ move ! (4 ∷ 0 ∷ []) $ join ! $ group ! 3 $ done ! in
    qed 𝓛 (((‵ (flft κ qs.0) ⊛ ‵ (flft ρ qs.1.0) ⊛ ‵ ftrue) ⊛ ‵
    (owns (types_at (ended Z).signature.params κs) a y.0.4))
    ∷ (raw (fact 𝓤 (ρ ⊑ B.lives)) ⊛ raw (fact 𝓤 (HasLayout τ size alignment))) ∷ []) ∵
    move ! (1 ∷ []) $ split ! $ heard ! _ (λ outlives. heard ! _
    (λ laid. split ! $ split3 ! $ move ! (3 ∷ []) $ fsplit ! $ fsplit ! $ move ! (1 ∷ []) $
    use1 𝓛 (‵ (hidden_shr B κ handle.inner b (inner_at B o))) (handle_shares 𝓛 B κ handle b o) $
    keep ! (0 ∷ 3 ∷ 4 ∷ []) $
    -- [the `&` to the allocator within; the tokens]
    enter ! _ _ _ _ _ $ alloc_all ! (λ l. pass_all ! refl
    ((tt, tt), ((tt, record { fits = are.1.0.1 }), ((tt, record { fits = are.1.1.0.1 }), tt))) $
    sets ! (addr ! (through ! refl (fld ! refl (stop !)))) refl (tt, tt) $
    let I = Takes Z 𝓛 𝓜.mem 𝓡.returns in
    let x : I.Ghost =
    at_takes Z 𝓛 𝓜.mem 𝓡.returns κ qs.0 (b, inner_at B o) handle.inner size alignment τ in
    use2 𝓛 (raw (I.pre x))
    (Takes-goes Z 𝓛 𝓜.mem 𝓡.returns κ qs.0 (b, inner_at B o) handle.inner (⊑_trans
    κ ρ B.lives bounds.0 outlives) size alignment τ laid.0 laid.1 are.1.0.1 are.1.1.0.1) $
    calls_at ! (framed 𝓤 𝓛.H 𝓜 𝓣) I (met.allocate dd) x (and_then !
    (get ! refl) (and_then ! (get ! refl) (and_then ! (get ! refl) (no_more !)))) (λ u.
    use1 𝓛 (later (raw (Answered Z 𝓛 𝓜.mem 𝓡.returns handle.inner τ u) ⊛ ‵ (flft κ qs.0)))
    (Takes-gives Z 𝓛 𝓜.mem 𝓡.returns κ qs.0 (b, inner_at B o) handle.inner size alignment τ u)
    $ await ! tt $ split ! $
    use1 𝓛 (some (λ (k : Bool × (ℕ × ℕ)). given (u ≡ answer_val k.0 k.1.0 k.1.1) (‵
    (got (token Z handle.inner) τ k.0 k.1.0 k.1.1)))) (id⊢ 𝓤 _) $ pick ! (λ k. learn ! (λ is_k.
    lands_as ! is_k refl
    (Answer-typed k.0 k.1.0 k.1.1) $ returns ! (look_at ! 0 refl) $ free_all ! refl $
    use1 𝓛 (‵ (block_if_ok (token Z handle.inner) τ (result_of k.0 k.1.0 k.1.1)))
    (passes_on 𝓛 (token Z handle.inner) τ k.0 k.1.0 k.1.1) $ out k.0 k.1.0 k.1.1)))))))
