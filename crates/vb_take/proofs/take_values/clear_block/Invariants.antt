use Rattle.std.proofs.Common.{◌≡◌, ℕ, ◌+◌, ◌<◌, ◌≤◌, drop, get_or}
use Rattle.vb_take.proofs.take_values.clear_block.Given as goal

abbrev pub invariant-loop-k : goal.invariant-loop-k
invariant-loop-k g l = record {
  zero : (i : ℕ) → l.at ≤ i → i < l.k → get_or l.out i g.T.Element.zero ≡ g.T.Element.zero;
  before : (i : ℕ) → i < l.at
      → get_or l.out i g.T.Element.zero ≡ get_or l.fn.out i g.T.Element.zero;
  behind : drop (l.at + 64) l.out ≡ drop (l.at + 64) l.fn.out;
}
