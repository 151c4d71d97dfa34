-- Runs extended by one command.
use Rattle.std.proofs.Common.{List, [], ◌∷◌, ◌++◌, refl, subst}
use Rattle.vb_command.specs.Machine.{Slot, Order, Reply, Outcome, Run}

-- a run and the outcome of one more order
pub Run-append : (s : List Slot) (cs : List Order) (rs : List Reply) (m : List Slot)
    (c : Order) (r : Reply) (t : List Slot)
    → Run s cs rs m → Outcome m c r t → Run s (cs ++ c ∷ []) (rs ++ r ∷ []) t
Run-append s [] [] m c r t run out =
    (t, subst (λ (x : List Slot). Outcome x c r t) run out, refl)
Run-append s (d ∷ cs) (q ∷ rs) m c r t (x, step, run) out =
    (x, step, Run-append x cs rs m c r t run out)
Run-append s [] (q ∷ rs) m c r t run out = absurd run
Run-append s (d ∷ cs) [] m c r t run out = absurd run
