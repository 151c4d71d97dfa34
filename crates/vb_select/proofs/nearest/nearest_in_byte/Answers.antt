use Rattle.std.proofs.Common.{◌^◌, ◌≤◌, ℕ, List, ap, ◌∙◌, sym, arith, pow_mono}
use Rattle.std.specs.Prelude.{count_ones}
use Rattle.vb_bits.specs.Bits.{bits, count}
use Rattle.vb_bits.specs.Digits.{digits}
use Rattle.vb_count.specs.Hits.{hits}
use Rattle.vb_bits.proofs.BytesLemmas.{bits_of_read_byte}
use Rattle.vb_bits.proofs.DigitsLemmas.{count-digits_below}
use Rattle.vb_select.proofs.SearchesLemmas.{Selects-digits_below}
use Rattle.vb_select.proofs.StopsLemmas.{rank_below, nearest_none, nearest_some}
use Rattle.vb_select.proofs.nearest.nearest_in_byte.Goals as goal

pub select_in_byte-requires : goal.select_in_byte-requires
select_in_byte-requires g c =
    let few : c.args.len ≤ 8 = omega (arith, c.requires.in_byte) in
    let wide : 2 ^ c.args.len ≤ 2 ^ 8 = pow_mono few in
    omega (
      arith,
      count-digits_below c.byte_part-part.result 8
          (omega (arith, wide, c.byte_part-part.ensures.clear)),
      c.rank.ensures,
      rank_below c.args.which (count_ones c.byte_part-part.result)
          (omega (arith, c.if-here-eq0.false)),
    )

pub returns-then-here-eq0-clause-found : goal.returns-then-here-eq0-clause-found
returns-then-here-eq0-clause-found g c =
    let b : List ℕ = (g.G.Glance.seen c.args.src.now).bytes in
    let v = c.args.value in
    let at : ℕ = c.args.at in let len : ℕ = c.args.len in
    let sought = c.byte_part-part.ensures.digits ∙ ap (hits v)
    (bits_of_read_byte b c.byte.result at len c.byte.ensures.value c.requires.in_byte) in
    nearest_none c.args.which (hits v (bits b at len)) (omega (
      arith,
      count-digits_below c.byte_part-part.result len c.byte_part-part.ensures.clear,
      ap count sought,
      c.if-here-eq0.true,
    ))

pub returns-clause-found : goal.returns-clause-found
returns-clause-found g c =
    let b : List ℕ = (g.G.Glance.seen c.args.src.now).bytes in
    let v = c.args.value in
    let at : ℕ = c.args.at in let len : ℕ = c.args.len in
    let part = c.byte_part-part in
    let sought = part.ensures.digits ∙ ap (hits v)
    (bits_of_read_byte b c.byte.result at len c.byte.ensures.value c.requires.in_byte) in
    let here = Selects-digits_below part.result len 8 c.rank.result c.select_in_byte.result
    (omega (arith, c.requires.in_byte)) part.ensures.clear c.select_in_byte.ensures in
    nearest_some c.args.which (digits part.result 0 len) (hits v (bits b at len)) _
    c.rank.result c.select_in_byte.result sought
    (sym (count-digits_below part.result len part.ensures.clear)) c.rank.ensures here
