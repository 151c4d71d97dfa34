use Rattle.std.proofs.Common.{◌≡◌, ℕ, negsuc, List, Bool, Option, Some, length, map, get_or, true}
use Rattle.std.proofs.Common.{cond, drop, sym, ap, ◌∙◌, arith}
use Rattle.std.specs.Option.{option_map}
use Rattle.std.proofs.lemmas.List.{drop-set-lt}
use Rattle.vb_view.specs.View.{bits_of}
use Rattle.vb_take.specs.ItemsTaken.{item_named, item_taken}
use Rattle.vb_take.proofs.ItemsLemmas.{taken_here, taken_more, all_taken}
use Rattle.vb_take.proofs.take_values.take_rest.Goals as goal
use Rattle.vb_take.proofs.take_values.take_rest.Goals.{then-is_valid+in-Some, else-is_valid}

pub loop-k-preserved : goal.loop-k-preserved
loop-k-preserved g c =
    let f = g.I.BitIndex.number in
    let zero = g.T.Element.zero in
    let items = c.args.values.now in
    let xs = c.args.indices.now in
    let v : Option (List Bool) = option_map bits_of c.args.validity in
    let k : ℕ = c.loop-k.k in
    let out = c.loop-k.out in
    let new = c.if-is_valid.out in
    let inv = c.loop-k.invariant in
    elim c.if-is_valid.branch [
      | then-is_valid+in-Some w ↦
          let value = w.in-Some.value in
          let here = taken_here f zero items xs v k w.index-indices-k.result (Some value) true
          (omega arith) w.index-indices-k.is (sym w.if-is_valid.true ∙ c.is_valid.ensures)
          (sym w.in-Some.is ∙ w.value_named.ensures) in
          record {
            taken = taken_more f zero items xs v k value out new inv.taken (omega arith) here
                w.out-is;
            others = ap (drop (length xs)) w.out-is
                ∙ drop-set-lt (length xs) out k value (omega arith) ∙ inv.others;
          }
      | else-is_valid w ↦
          let value = w.zero.result in
          let here : item_taken zero items (map f xs) v k ≡ Some value =
          ap (λ b. cond b (item_named items (get_or (map f xs) k (negsuc 0))) (Some zero))
          (sym c.is_valid.ensures ∙ w.if-is_valid.false) ∙ ap Some (sym w.zero.ensures.value) in
          record {
            taken = taken_more f zero items xs v k value out new inv.taken (omega arith) here
                w.out-is;
            others = ap (drop (length xs)) w.out-is
                ∙ drop-set-lt (length xs) out k value (omega arith) ∙ inv.others;
          }
    ]

pub returns-clause-taken : goal.returns-clause-taken
returns-clause-taken g c =
    let end : c.loop-k.k ≡ length c.args.indices.now = omega arith in
    all_taken g.I.BitIndex.number g.T.Element.zero c.args.values.now c.args.indices.now
    (option_map bits_of c.args.validity) c.loop-k.out (omega arith)
    (λ i h. c.loop-k.invariant.taken i (omega arith))
