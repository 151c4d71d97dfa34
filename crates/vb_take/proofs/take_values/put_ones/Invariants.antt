use Rattle.std.proofs.Common.{◌≡◌, ℕ, negsuc, ◌+◌, ◌-◌, ◌<◌, ◌≤◌, true, false, Some, map, get_or}
use Rattle.std.proofs.Common.{drop}
use Rattle.std.specs.Int.{trailing_zeros, w64}
use Rattle.vb_bits.specs.Digits.{has_bit}
use Rattle.vb_take.specs.ItemsTaken.{item_named}
use Rattle.vb_take.proofs.take_values.put_ones.Given as goal

-- the positions that are no longer left have their values, and the other items are unchanged
abbrev pub invariant-loop-left : goal.invariant-loop-left
invariant-loop-left g l = record {
  put : (k : ℕ) → k < 64 → has_bit l.word k ≡ true → has_bit l.left k ≡ false
      → item_named l.values (get_or (map g.I.BitIndex.number l.indices) (l.at + k) (negsuc 0))
      ≡ Some (get_or l.out (l.at + k) g.T.Element.zero);
  kept : (i : ℕ) → i < l.at + 64 → (l.at ≤ i → has_bit l.word (i - l.at) ≡ false)
      → get_or l.out i g.T.Element.zero ≡ get_or l.fn.out i g.T.Element.zero;
  lowest : 0 < l.left → drop (l.at + trailing_zeros w64 l.left) l.out
      ≡ drop (l.at + trailing_zeros w64 l.left) l.fn.out;
  behind : drop (l.at + 64) l.out ≡ drop (l.at + 64) l.fn.out;
  ones : (k : ℕ) → has_bit l.left k ≡ true → has_bit l.word k ≡ true;
}

abbrev pub decreases-loop-left : goal.decreases-loop-left
decreases-loop-left g l = l.left
