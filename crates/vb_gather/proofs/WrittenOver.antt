-- Items that are all overwritten.
use Rattle.std.proofs.Common.{◌≡◌, ◌++◌, ℕ, List, length, take, ap, ◌∙◌, arith}
use Rattle.std.specs.List.{refill}
use Rattle.std.proofs.lemmas.List.{append-nil, drop_all, take_all}

-- no old item is left
pub refilled : (xs ws : List ℕ) → length ws ≡ length xs → refill (length xs) xs ws ≡ ws
refilled xs ws same =
    ap (λ l. take (length xs) (ws ++ l)) (drop_all (length ws) xs (omega arith))
    ∙ ap (take (length xs)) (append-nil ws) ∙ take_all (length xs) ws (omega arith)
