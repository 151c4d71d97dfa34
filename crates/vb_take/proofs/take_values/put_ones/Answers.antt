use Rattle.std.proofs.Common.{◌≡◌, ℕ, negsuc, ◌+◌, ◌-◌, ◌^◌, ◌<◌, inl, inr, Some, None, map}
use Rattle.std.proofs.Common.{length, get_or, slice_set, drop, sym, ap, ◌∙◌, arith}
use Rattle.std.specs.Int.{trailing_zeros, w64}
use Rattle.std.specs.Int.Bits.{bit_and}
use Rattle.std.proofs.lemmas.Bool.{false≢true}
use Rattle.std.proofs.lemmas.List.{drop-set-lt, get_or-set_same, get_or-set_other}
use Rattle.vb_bits.specs.Digits.{has_bit}
use Rattle.vb_take.specs.ItemsTaken.{item_named}
use Rattle.vb_take.proofs.ValueBlocksLemmas.{drop_later, lowest_has, lowest_few, below_lowest}
use Rattle.vb_take.proofs.ValueBlocksLemmas.{left_gone, left_next, named_here}
use Rattle.vb_take.proofs.ItemsLemmas.{left_before}
use Rattle.vb_take.proofs.take_values.put_ones.Goals as goal

pub returns-in-None-clause-past : goal.returns-in-None-clause-past
returns-in-None-clause-past g c =
    let word : ℕ = c.args.word in
    let left : ℕ = c.loop-left.left in
    let a : ℕ = c.args.at in
    let out = c.loop-left.out in
    let inv = c.loop-left.invariant in
    let low : ℕ = trailing_zeros w64 left in
    let some : 0 < left = omega (arith, c.loop-left-test.true) in
    let fits : left < 2 ^ 64 = omega arith in
    let few : low < 64 = lowest_few left some fits in
    let place : a + low - a ≡ low = omega arith in
    let back : a + (a + low - a) ≡ a + low = omega arith in
    let here : a + low < length c.args.indices.now = omega (arith, few, c.requires.inside) in
    record {
      from = omega arith;
      within = omega (arith, few);
      counts = ap (has_bit word) place ∙ inv.ones low (lowest_has left some fits);
      past = named_here g.I.BitIndex.number g.T.Element.zero c.args.values.now c.args.indices.now
          (a + low) c.index-indices-place.result None here c.index-indices-place.is
          (sym c.in-None.is ∙ c.value_named.ensures);
      put = record {
        put = λ k h on. inv.put k (omega (arith, few)) on
            (below_lowest left some fits k (omega arith));
        kept = λ i h off. inv.kept i (omega (arith, few)) off;
        behind = ap (λ j. drop j out) back ∙ inv.lowest some
            ∙ ap (λ j. drop j c.args.out.now) (sym back);
      };
    }

pub loop-left-preserved : goal.loop-left-preserved
loop-left-preserved g c =
    let f = g.I.BitIndex.number in
    let zero = g.T.Element.zero in
    let items = c.args.values.now in
    let xs = c.args.indices.now in
    let word : ℕ = c.args.word in
    let left : ℕ = c.loop-left.left in
    let rest : ℕ = bit_and left (left - 1) in
    let a : ℕ = c.args.at in
    let out = c.loop-left.out in
    let old = c.args.out.now in
    let inv = c.loop-left.invariant in
    let low : ℕ = trailing_zeros w64 left in
    let p : ℕ = a + low in
    let value = c.in-Some.value in
    let some : 0 < left = omega (arith, c.loop-left-test.true) in
    let fits : left < 2 ^ 64 = omega arith in
    let few : low < 64 = lowest_few left some fits in
    let here : p < length xs = omega (arith, few, c.requires.inside) in
    let room : p < length out = omega (arith, few, c.requires.room, c.loop-left.auto.out) in
    let one = lowest_has left some fits in
    let named = named_here f zero items xs p c.index-indices-place.result (Some value) here
    c.index-indices-place.is (sym c.in-Some.is ∙ c.value_named.ensures) in
    record {
      put = λ k h on gone. elim (left_gone left some fits k gone) [
        | inl same ↦
            ap (λ j. item_named items (get_or (map f xs) (a + j) (negsuc 0))) same ∙ named
            ∙ ap Some (sym (ap (λ j. get_or (slice_set out p value) (a + j) zero) same
            ∙ get_or-set_same out p value zero room))
        | inr was ↦
            inv.put k h on was
            ∙ ap Some (sym (get_or-set_other out p (a + k) value zero (λ e.
            let same : k ≡ low = omega arith in
            absurd (false≢true (sym was ∙ ap (has_bit left) same ∙ one)))))
      ];
      kept = λ i h off.
          get_or-set_other out p i value zero (λ e.
          let place : i - a ≡ low = omega arith in
          absurd (false≢true (sym (off (omega arith)) ∙ ap (has_bit word) place
          ∙ inv.ones low one)))
          ∙ inv.kept i h off;
      lowest = λ more.
          let next : low < trailing_zeros w64 rest = left_next left some fits more in
          let q : ℕ = a + trailing_zeros w64 rest in
          drop-set-lt q out p value (omega (arith, next))
          ∙ drop_later q p old out (omega (arith, next)) (inv.lowest some);
      behind = drop-set-lt (a + 64) out p value (omega (arith, few)) ∙ inv.behind;
      ones = λ k on. inv.ones k (left_before left k on);
    }
