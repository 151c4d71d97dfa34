use Rattle.std.proofs.Common.{◌≡◌, ℕ, negsuc, ◌<◌, ◌≤◌, Some, map, get_or, drop}
use Rattle.vb_take.specs.ItemsTaken.{item_named}
use Rattle.vb_take.proofs.take_values.put_full.Given as goal

abbrev pub invariant-loop-position : goal.invariant-loop-position
invariant-loop-position g l = record {
  put : (i : ℕ) → l.at ≤ i → i < l.position
      → item_named l.values (get_or (map g.I.BitIndex.number l.indices) i (negsuc 0))
      ≡ Some (get_or l.out i g.T.Element.zero);
  before : (i : ℕ) → i < l.at
      → get_or l.out i g.T.Element.zero ≡ get_or l.fn.out i g.T.Element.zero;
  behind : drop l.position l.out ≡ drop l.position l.fn.out;
}
