use Rattle.std.proofs.Common.{◌≡◌, ◌*◌, None, drop, length, map}
use Rattle.vb_take.specs.ItemsTaken.{item_or, item_taken}
use Rattle.vb_take.specs.Takes.{TakenTo}
use Rattle.vb_take.proofs.take_values.take_all.Given as goal

abbrev pub invariant-loop-t : goal.invariant-loop-t
invariant-loop-t g l = record {
  taken : TakenTo (4 * l.t) (item_taken g.T.Element.zero l.values
      (map g.I.BitIndex.number l.indices) None) (item_or g.T.Element.zero l.out);
  others : drop (length l.indices) l.out ≡ drop (length l.indices) l.fn.out;
}
