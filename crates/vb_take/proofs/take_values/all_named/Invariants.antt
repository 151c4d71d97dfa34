use Rattle.std.proofs.Common.{◌≡◌, ℕ, negsuc, ◌+◌, ◌<◌, true, false, map, get_or}
use Rattle.std.specs.Prelude.{IsSome}
use Rattle.vb_bits.specs.Digits.{has_bit}
use Rattle.vb_take.specs.ItemsTaken.{item_named}
use Rattle.vb_take.proofs.take_values.all_named.Given as goal

-- the indices of the positions that are no longer left are in range
abbrev pub invariant-loop-left : goal.invariant-loop-left
invariant-loop-left g l = (k : ℕ) → k < 64 → has_bit l.word k ≡ true → has_bit l.left k ≡ false
    → IsSome (item_named l.values
    (get_or (map g.I.BitIndex.number l.indices) (l.at + k) (negsuc 0)))

abbrev pub decreases-loop-left : goal.decreases-loop-left
decreases-loop-left g l = l.left
