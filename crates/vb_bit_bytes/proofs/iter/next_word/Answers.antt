use Rattle.std.proofs.Common.{◌≡◌, take, sym, ap, ◌∙◌, subst, arith}
use Rattle.std.specs.Iterator.{Drains}
use Rattle.vb_bits.specs.Digits.{digits}
use Rattle.vb_bits.proofs.DigitsLemmas.{length-digits}
use Rattle.vb_bit_bytes.proofs.ItemsLemmas.{take-digits}
use Rattle.vb_bit_bytes.proofs.iter.next_word.Goals as goal

pub returns-in_default-clause-gives : goal.returns-in_default-clause-gives
returns-in_default-clause-gives g c =
    let i = c.loop-i.i in let w = c.pack_bool_word_lanes.result in
    let all : digits w 0 i ≡ c.loop-i.yielded = take-digits w i 64 (omega arith)
    ∙ ap (take i) c.pack_bool_word_lanes.ensures ∙ c.loop-i.invariant.given in (
      λ few. subst (Drains g.I.Iterator.next_gives c.args.iter) (sym all)
          (c.next.new.self, (c.loop-i.iter, c.loop-i.yielded_by, c.in_default.ensures.steps)),
      λ full. absurd (omega (arith, full, length-digits w 0 i)),
    )
