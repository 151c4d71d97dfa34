-- Counts a request through a `&` to the counts, and then refuses it or forwards it through a `&` to
-- the inner allocator. Assumes `Logic`.
use Rattle.vb_testing.proofs.Steps.{◌≡◌, ◌^◌, ℕ, [], ◌∷◌, refl, ap, w64, proved, after, Al, token}
use Rattle.vb_testing.proofs.Steps.{Takes, at_takes, Answered, Takes-goes, Takes-gives, Answer}
use Rattle.vb_testing.proofs.Steps.{answer_val, Answer-typed, id⊢, ftrue, flft, ◌⊑◌, ⊑_trans, fact}
use Rattle.vb_testing.proofs.Steps.{tables, inst_fn, Fn, named, vint, vptr, ‵, raw, ◌⊛◌, some}
use Rattle.vb_testing.proofs.Steps.{later, given, prop, at_ret, Sq, ◌$◌, ◌∵◌, !, qed, done, move}
use Rattle.vb_testing.proofs.Steps.{keep, drop, use0, use1, use2, split, split3, join, fsplit}
use Rattle.vb_testing.proofs.Steps.{fjoin, feq_i, feq_l, flt_i, pick, learn, await, suffices, group}
use Rattle.vb_testing.proofs.Steps.{enter, lit, addr, stop, fld, no_more, and_then, first, branches}
use Rattle.vb_testing.proofs.Steps.{skips, exec, returns, returns_within, alloc_all, pass_all}
use Rattle.vb_testing.proofs.Steps.{free_all, look_at, get, through, sets, lands_as, env, agg}
use Rattle.vb_testing.proofs.Steps.{usize, bool, RefOf, yes, hidden_shr, param, uint_vals}
use Rattle.vb_testing.proofs.Steps.{uint_Tells, owns, only, shr_vals, shr_Tells, Slot, plain}
use Rattle.vb_testing.proofs.Steps.{types_at, heard, nothing, calls_at, Ended, lasts, triple_of}
use Rattle.vb_testing.proofs.Steps.{framed, Stays, walk_of, stay_dropped, Goes-dropped, ends_at}
use mathlib.Core.Bool.{Bool, false}
use Rattle.std.specs.Allocator.{block_if_ok, HasLayout}
use Rattle.std.proofs.alloc.Calls.{got}
use Rattle.std.proofs.alloc.Resizes.{result_of, result_own}
use Rattle.vb_testing.proofs.Within.{argument, inner_at, requests_at, refusing_shares, passes_on}
use Rattle.vb_testing.specs.contracts.refusing.Refusing.{the_row}
use Rattle.vb_testing.specs.contracts.refusing.Requests as Requests
use Rattle.vb_testing.specs.contracts.refusing.Requests.refuses_next as g
use Rattle.vb_testing.proofs.refusing.Requests.refuses_next.Met as counted
use Rattle.vb_testing.specs.contracts.refusing.RefusingAllocator.allocate as f
use Rattle.vb_testing.proofs.refusing.RefusingAllocator.allocate.Statement.{statement}
use Rattle.vb_testing.proofs.refusing.RefusingAllocator.allocate.Code as code

module _ (Z : Al) where
  abbrev self : Slot 2
  self = RefOf (0 ∷ []) tt (plain (λ _. the_row (param 0 Z.row))) (λ _. tt)

  abbrev ended : Ended
  ended = f.ended Z.row Z.g Z.d Z.drops

  abbrev stayed : Stays ended.signature.params ended.kept
  stayed = (
    stay_dropped self yes,
    (stay_dropped (plain (λ _. usize)) yes, (stay_dropped (plain (λ _. usize)) yes, tt)),
  )

  abbrev body : Fn
  body = inst_fn (argument Z) code.function

pub allocate_spec : {M : Type 1} → statement M
allocate_spec 𝓤 𝓛 𝓜 𝓡 wired B L gs d dd met md =
    let Z : Al = record { row = B; laws = L; g = gs; d = d; drops = dd } in
    let c = f.clauses B gs d dd 𝓛 𝓜.mem 𝓡.returns in
    let W = walk_of 𝓛 (ended Z) (stayed Z) c in
    let 𝓣 = tables 𝓤 𝓛.H 𝓜 𝓡 𝓡.env in
    let number = Goes-dropped 𝓛 2 (plain (λ _. usize)) yes (λ κs x w. refl) in
    proved 𝓛 (ended Z) (stayed Z) c 𝓜 𝓡
    (Goes-dropped 𝓛 2 (self Z) yes (λ κs x w. refl), (number, (number, tt)))
    (f.Key.name (argument Z)) (body Z) (code.unfolded 𝓤 𝓛.H 𝓜 𝓡 wired (B, tt) d dd)
    (λ κs. (shr_vals, (uint_vals w64, (uint_vals w64, tt))))
    (λ κs. (shr_Tells (named 0) κs.0 (the_row (param 0 B)), (uint_Tells w64, (uint_Tells w64, tt))))
    (λ κs qs bounds a τ are.
    let κ = κs.0 in
    let ρ = κs.1.0 in
    let b = a.0.ref_ptr.0 in
    let o = a.0.ref_ptr.1 in
    let heap = a.0.now in
    let size = a.1.0 in let alignment = a.1.1.0 in
    let y : W.Ghost = (
      (κs, qs, bounds, a, (shr_vals a.0, (uint_vals w64 size, (uint_vals w64 alignment, tt)))),
      τ,
    ) in
    let out : (is_ok : Bool) (m i : ℕ)
    → Sq 𝓛 (‵ (block_if_ok (token Z heap.inner) τ (result_of is_ok m i)) ∷ ‵ (flft κ qs.0)
    ∷ ‵ (flft ρ qs.1.0) ∷ []) (prop (W.post y (answer_val is_ok m i))) = λ is_ok m i.
    suffices ! _ (ends_at 𝓛 (ended Z) (stayed Z) c y
    (answer_val is_ok m i) (result_of is_ok m i) (tt, (tt, (tt, tt))) (tt, (tt, (tt, tt)))) $
    use0 𝓛 (‵ (Answer.own_val (result_of is_ok m i) (answer_val is_ok m i ∷ [])))
    (result_own 𝓛 is_ok m i) $
    nothing ! $ nothing ! $ join ! $ nothing ! $ join ! $ nothing ! $ join ! $
    nothing ! $ move ! (5 ∷ 0 ∷ []) $ join ! $ move ! (4 ∷ 0 ∷ []) $ join ! $ group ! 3 $ done ! in
    qed 𝓛 (((‵ (flft κ qs.0) ⊛ ‵ (flft ρ qs.1.0) ⊛ ‵ ftrue) ⊛ ‵
    (owns (types_at (ended Z).signature.params κs) a y.0.4))
    ∷ (raw (fact 𝓤 (ρ ⊑ B.lives)) ⊛ raw (fact 𝓤 (HasLayout τ size alignment))) ∷ []) ∵
    move ! (1 ∷ []) $ split ! $ heard ! _ (λ outlives. heard ! _
    (λ laid. split ! $ split3 ! $ move ! (3 ∷ []) $ fsplit ! $ fsplit ! $ move ! (1 ∷ []) $
    use1 𝓛 (‵ (hidden_shr B κ heap.inner b (inner_at B o)) ⊛ ‵ (hidden_shr Requests.the_row
    κ heap.requests b (requests_at B o))) (refusing_shares 𝓛 B κ heap b o) $ split ! $
    keep ! (1 ∷ 4 ∷ 0 ∷ 5 ∷ []) $
    -- [the `&` to the counts; the token of κ; the `&` to the allocator within; the other token]
    enter ! _ _ _ _ _ $ alloc_all ! (λ l. pass_all ! refl
    ((tt, tt), ((tt, record { fits = are.1.0.1 }), ((tt, record { fits = are.1.1.0.1 }), tt))) $
    sets ! (addr ! (through ! refl (fld ! refl (stop !)))) refl (tt, tt) $
    let G = triple_of 𝓛 g.signature (g.spec 𝓛 𝓜.mem 𝓡.returns) in
    let z : G.Ghost = (
      (
        (κ, tt),
        (qs.0, tt),
        tt,
        (
          record { ref_ptr = (b, requests_at B o); now = heap.requests },
          (size, tt),
        ),
        (vptr b (requests_at B o) ∷ [], (uint_vals w64 size, tt)),
      ),
      tt,
    ) in
    nothing ! $ flt_i ! size (2 ^ 64) are.1.0.1 $ feq_i ! _
    (vint w64 size ∷ []) _ refl $ fjoin ! $ fjoin ! $ move ! (1 ∷ 0 ∷ []) $
    feq_i ! _ (vptr b (requests_at B o) ∷ []) _ refl $ fjoin ! $ fjoin ! $
    nothing ! $ move ! (2 ∷ 0 ∷ []) $ join ! $ join ! $ nothing ! $ move !
    (1 ∷ 0 ∷ []) $ use2 𝓛 (raw (G.pre z)) (id⊢ 𝓤 _) $
    calls_at ! (framed 𝓤 𝓛.H 𝓜 𝓣) G
    (counted.met 𝓤 𝓛 𝓜 𝓡 (code.calls-vb_testing::refusing::Requests::refuses_next 𝓡.env wired))
    z (and_then ! (get ! refl) (and_then ! (get ! refl) (no_more !))) (λ v.
    use1 𝓛 (later (some
    (λ (refuses : Bool). ((‵ (flft κ qs.0) ⊛ ‵ ftrue) ⊛ ‵ (bool.own_val refuses (v ∷ []))) ⊛
    some (λ (ws : Unit {0} × (Unit {0} × Unit {0})). ‵ (lasts g.ended z.0.0 z.0.3 ws) ⊛ ‵ ftrue))))
    (id⊢ 𝓤 _) $ await ! tt $ pick ! (λ refuses.
    split ! $ split ! $ split ! $ move !
    (2 ∷ []) $ feq_l ! (λ is_bool. move ! (1 ∷ 2 ∷ []) $ drop ! $ drop ! $
    lands_as ! (ap only is_bool) refl (tt, tt) $
    -- [the token of κ; the `&` to the allocator within; the other token]
    first ! $ branches ! (get ! refl)
    (λ refused. sets ! (agg ! (no_more !)) refl (tt, tt) $ sets ! (agg ! (and_then !
    (lit ! tt) (and_then ! (get ! refl) (no_more !)))) refl (Answer-typed false 0 0) $
    returns_within ! (W.post y) refl
    (look_at ! 0 refl) $ free_all ! refl $ nothing ! $ keep ! (0 ∷ 1 ∷ 3 ∷ []) $ out false 0 0)
    (λ passed. skips ! $ exec ! 𝓣.C 𝓣.Λ (env (body Z).locals l)
    (after 3 (body Z).body) (at_ret _ (W.post y)) $
    sets ! (addr ! (through ! refl (fld ! refl (stop !)))) refl (tt, tt) $
    let I = Takes Z 𝓛 𝓜.mem 𝓡.returns in
    let x : I.Ghost =
    at_takes Z 𝓛 𝓜.mem 𝓡.returns κ qs.0 (b, inner_at B o) heap.inner size alignment τ in
    move ! (1 ∷ 0 ∷ []) $ use2 𝓛
    (raw (I.pre x)) (Takes-goes Z 𝓛 𝓜.mem 𝓡.returns κ qs.0 (b, inner_at B o) heap.inner (⊑_trans
    κ ρ B.lives bounds.0 outlives) size alignment τ laid.0 laid.1 are.1.0.1 are.1.1.0.1) $
    calls_at ! (framed 𝓤 𝓛.H 𝓜 𝓣) I (met.allocate dd) x (and_then !
    (get ! refl) (and_then ! (get ! refl) (and_then ! (get ! refl) (no_more !)))) (λ u.
    use1 𝓛 (later (raw (Answered Z 𝓛 𝓜.mem 𝓡.returns heap.inner τ u) ⊛ ‵ (flft κ qs.0)))
    (Takes-gives Z 𝓛 𝓜.mem 𝓡.returns κ qs.0 (b, inner_at B o) heap.inner size alignment τ u)
    $ await ! tt $ split ! $
    use1 𝓛 (some (λ (k : Bool × (ℕ × ℕ)). given (u ≡ answer_val k.0 k.1.0 k.1.1)
    (‵ (got (token Z heap.inner) τ k.0 k.1.0 k.1.1)))) (id⊢ 𝓤 _) $ pick ! (λ k. learn ! (λ is_k.
    lands_as ! is_k refl
    (Answer-typed k.0 k.1.0 k.1.1) $ returns ! (look_at ! 0 refl) $ free_all ! refl $
    use1 𝓛 (‵ (block_if_ok (token Z heap.inner) τ (result_of k.0 k.1.0 k.1.1)))
    (passes_on 𝓛 (token Z heap.inner) τ k.0 k.1.0 k.1.1) $ out k.0 k.1.0 k.1.1)))))))))))
