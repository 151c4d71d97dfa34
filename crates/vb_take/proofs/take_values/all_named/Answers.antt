use Rattle.std.proofs.Common.{ℕ, negsuc, ◌+◌, ◌^◌, ◌<◌, inl, inr, map, length, get_or, not, ap}
use Rattle.std.proofs.Common.{sym, subst, ◌∙◌, arith}
use Rattle.std.specs.Int.{trailing_zeros, w64}
use Rattle.std.specs.Prelude.{IsSome}
use Rattle.vb_take.proofs.ValueBlocksLemmas.{lowest_few, left_gone, named_here}
use Rattle.vb_take.specs.ItemsTaken.{item_named}
use Rattle.vb_take.proofs.take_values.all_named.Goals as goal

pub loop-left-preserved : goal.loop-left-preserved
loop-left-preserved g c =
    let f = g.I.BitIndex.number in
    let items = c.args.values.now in
    let xs = c.args.indices.now in
    let a : ℕ = c.args.at in
    let left : ℕ = c.loop-left.left in
    let low : ℕ = trailing_zeros w64 left in
    let some : 0 < left = omega (arith, c.loop-left-test.true) in
    let fits : left < 2 ^ 64 = omega arith in
    let inside : a + low < length xs =
    omega (arith, lowest_few left some fits, c.requires) in
    let named = named_here f g.T.Element.zero items xs (a + low) c.index-indices-at.result
    c.value_named.result inside c.index-indices-at.is c.value_named.ensures in
    λ k h on gone. elim (left_gone left some fits k gone) [
      | inl same ↦
          subst (λ j. IsSome (item_named items (get_or (map f xs) (a + j) (negsuc 0)))) (sym same)
          (subst IsSome (sym named) (c.is_none.ensures ∙ ap not c.if-is_none.false))
      | inr was ↦ c.loop-left.invariant k h on was
    ]
