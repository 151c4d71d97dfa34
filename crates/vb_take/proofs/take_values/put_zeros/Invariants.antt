use Rattle.std.proofs.Common.{◌≡◌, ℕ, ◌+◌, ◌-◌, ◌^◌, ◌<◌, ◌≤◌, true, false, get_or, drop}
use Rattle.vb_bits.specs.Digits.{has_bit}
use Rattle.vb_take.proofs.take_values.put_zeros.Given as goal

-- the positions that are no longer left are 0, and the other items are unchanged
abbrev pub invariant-loop-left : goal.invariant-loop-left
invariant-loop-left g l = record {
  put : (k : ℕ) → k < l.n → has_bit l.word k ≡ false → has_bit l.left k ≡ false
      → get_or l.out (l.at + k) g.T.Element.zero ≡ g.T.Element.zero;
  kept : (i : ℕ) → i < l.at + l.n → (l.at ≤ i → has_bit l.word (i - l.at) ≡ true)
      → get_or l.out i g.T.Element.zero ≡ get_or l.fn.out i g.T.Element.zero;
  behind : drop (l.at + l.n) l.out ≡ drop (l.at + l.n) l.fn.out;
  clear : l.left < 2 ^ l.n;
  zeros : (k : ℕ) → k < l.n → has_bit l.left k ≡ true → has_bit l.word k ≡ false;
}

abbrev pub decreases-loop-left : goal.decreases-loop-left
decreases-loop-left g l = l.left
