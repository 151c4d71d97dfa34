-- The orders of the lines of an input, one line after the other.
use Rattle.std.proofs.Common.{◌≡◌, ℕ, ◌+◌, ◌-◌, ◌^◌, ◌<◌, List, [], ◌∷◌, ◌++◌, length, refl, ap}
use Rattle.std.proofs.Common.{◌∙◌, Option, Some, None, arith, lt-ltb}
use Rattle.vb_command.specs.Machine.{Order}
use Rattle.vb_command.specs.Optional.{◌>>=◌}
use Rattle.vb_command.specs.Reading.{reading, script, with_order}

-- an order before a list of orders that is extended
with_order-append : (c : Option Order) (cs more : List Order)
    → with_order c (cs ++ more) ≡ with_order c cs ++ more
with_order-append None cs more = refl
with_order-append (Some c) cs more = refl

-- a first line, and the lines after it, all of which can be read
script-cons : (n : ℕ) (line : List ℕ) (ls : List (List ℕ)) (c : Option Order) (cs : List Order)
    → n < 2 ^ 64 - 1 → reading line ≡ Some c → script (n + 1) ls ≡ Some cs
    → script n (line ∷ ls) ≡ Some (with_order c cs)
script-cons n line ls c cs small read more = rw (lt-ltb n (2 ^ 64 - 1) small, read, more) refl

-- if the combination of two readings has a value, both have one
both_some : (first : Option (Option Order)) (more : Option (List Order)) (cs : List Order)
    → (first >>= (λ c. more >>= (λ ds. Some (with_order c ds)))) ≡ Some cs
    → (c : Option Order) × (ds : List Order) × (first ≡ Some c) × (more ≡ Some ds) ×
    (with_order c ds ≡ cs)
both_some None more cs e = absurd (cc)
both_some (Some c) None cs e = absurd (cc)
both_some (Some c) (Some ds) cs e = (c, ds, refl, refl, cc)

-- the same for a script
script-parts : (n : ℕ) (line : List ℕ) (ls : List (List ℕ)) (cs : List Order) → n < 2 ^ 64 - 1
    → script n (line ∷ ls) ≡ Some cs
    → (c : Option Order) × (ds : List Order) × (reading line ≡ Some c) ×
    (script (n + 1) ls ≡ Some ds) × (with_order c ds ≡ cs)
script-parts n line ls cs small e = both_some (reading line) (script (n + 1) ls) cs
    (rw (lt-ltb n (2 ^ 64 - 1) small) at e)

-- one more line at the end
pub script-append : (n : ℕ) (ls : List (List ℕ)) (line : List ℕ) (cs : List Order)
    (c : Option Order) → n + length ls < 2 ^ 64 - 1 → reading line ≡ Some c → script n ls ≡ Some cs
    → script n (ls ++ line ∷ []) ≡ Some (cs ++ with_order c [])
script-append n [] line cs c small read e = script-cons n line [] c [] (omega arith) read refl
    ∙ ap (λ o. o >>= (λ ds. Some (ds ++ with_order c []))) e
script-append n (l ∷ ls) line cs c small read e =
    let first : n < 2 ^ 64 - 1 = omega arith in
    let p = script-parts n l ls cs first e in
    script-cons n l (ls ++ line ∷ []) p.0 (p.1 ++ with_order c []) first p.2
    (script-append (n + 1) ls line p.1 c (omega arith) read p.3)
    ∙ ap Some (with_order-append p.0 p.1 (with_order c []) ∙ ap (λ ds. ds ++ with_order c []) p.4)
