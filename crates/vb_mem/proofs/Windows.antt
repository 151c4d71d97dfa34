-- Parts of parts of lists.
use Rattle.std.proofs.Common.{◌≡◌, ℕ, ◌+◌, ◌-◌, ◌≤◌, List, take, drop, slice_range}
use Rattle.std.proofs.Common.{sym, ap, ◌∙◌, arith}
use Rattle.std.proofs.lemmas.List.{take-take, drop-drop, drop-take}

-- a part of a window starts at the sum of both starts
pub slice_range-window : {X : Type 0} (xs : List X) (start len from to : ℕ)
    → from ≤ to → to ≤ len
    → slice_range (take len (drop start xs)) from to ≡ take (to - from) (drop (start + from) xs)
slice_range-window xs start len from to h k =
    let rest = drop start xs in
    let cut : from + (len - from) ≡ len = omega arith in
    let shifted : drop from (take len rest) ≡ take (len - from) (drop from rest) =
    ap (λ n. drop from (take n rest)) (sym cut) ∙ drop-take from (len - from) rest in
    ap (take (to - from)) shifted
    ∙ take-take (to - from) (len - from) (drop from rest) (omega arith)
    ∙ ap (take (to - from)) (drop-drop from start xs)
