use Rattle.std.proofs.Common.{◌+◌, ◌≤◌, ◌++◌, take, ap, sym, ◌∙◌, arith}
use Rattle.vb_bits.specs.Digits.{digits}
use Rattle.vb_bits.specs.Kept.{kept_by}
use Rattle.std.specs.Prelude.{count_ones}
use Rattle.vb_bits.proofs.BitsLemmas.{count-le}
use Rattle.vb_bits.proofs.DigitsLemmas.{count-digits_below, length-digits}
use Rattle.vb_filter.proofs.ElementsLemmas.{four_items, some_written, behind_four, drop_further}
use Rattle.vb_filter.proofs.filter_elements.put_four.Goals as goal

pub returns-clause-front : goal.returns-clause-front
returns-clause-front g c =
    let kept = c.keep_four-kept.result in
    let old = c.args.out.now in
    let few : count_ones c.args.keep ≤ 4 = omega (
      arith,
      count-digits_below c.args.keep 4 c.requires.clear,
      count-le (digits c.args.keep 0 4),
      length-digits c.args.keep 0 4,
    ) in
    let all = four_items c.args.values.now c.index-values-0.result c.index-values-1.result
    c.index-values-2.result c.index-values-3.result c.requires.long c.index-values-0.is
    c.index-values-1.is c.index-values-2.is c.index-values-3.is in
    some_written old c.write_four.new.out c.args.len kept.0 kept.1 kept.2 kept.3
    (omega (arith, c.requires.room)) c.write_four.ensures (count_ones c.args.keep) few
    ∙ ap (λ l. take c.args.len old ++ l) (c.keep_four-kept.ensures
    ∙ ap (kept_by (digits c.args.keep 0 4)) (sym all))

pub returns-clause-behind : goal.returns-clause-behind
returns-clause-behind g c =
    let kept = c.keep_four-kept.result in
    let len = c.args.len in
    drop_further c.write_four.new.out c.args.out.now (len + 4) (len + count_ones c.args.keep + 4)
    (omega arith) (behind_four c.args.out.now c.write_four.new.out len kept.0 kept.1 kept.2 kept.3
    (omega (arith, c.requires.room)) c.write_four.ensures)
