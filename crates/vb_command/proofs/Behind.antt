-- The items read so far, and the items of the rest.
use Rattle.std.proofs.Common.{◌≡◌, List, [], ◌∷◌, ◌++◌, refl, sym, ap, Option, Some, None}
use Rattle.std.proofs.Common.{append_assoc}
use Rattle.std.specs.Option.{option_map}
use Rattle.vb_command.specs.Optional.{◌>>=◌}

-- the items read so far, followed by the items of the rest if these can be read
abbrev pub behind : {X : Type 0} → List X → Option (List X) → Option (List X)
behind front rest = option_map (λ more. front ++ more) rest

-- the next item can be the first of the rest or the last of those read so far
pub behind-next : {X : Type 0} (front : List X) (x : X) (rest : Option (List X))
    → behind front (rest >>= (λ more. Some (x ∷ more))) ≡ behind (front ++ x ∷ []) rest
behind-next front x None = refl
behind-next front x (Some more) = ap Some (sym (append_assoc front (x ∷ []) more))
