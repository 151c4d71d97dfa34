use Rattle.std.proofs.Common.{◌≡◌, drop, length, map}
use Rattle.std.specs.Option.{option_map}
use Rattle.vb_view.specs.View.{bits_of}
use Rattle.vb_take.specs.ItemsTaken.{item_or, item_taken}
use Rattle.vb_take.specs.Takes.{TakenTo}
use Rattle.vb_take.proofs.take_values.take_rest.Given as goal

abbrev pub invariant-loop-k : goal.invariant-loop-k
invariant-loop-k g l = record {
  taken : TakenTo l.k (item_taken g.T.Element.zero l.values (map g.I.BitIndex.number l.indices)
      (option_map bits_of l.validity)) (item_or g.T.Element.zero l.out);
  others : drop (length l.indices) l.out ≡ drop (length l.indices) l.fn.out;
}
