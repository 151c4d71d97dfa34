use Rattle.std.proofs.Common.{arith}
use Rattle.vb_bits.specs.Bits.{bits}
use Rattle.vb_bits.proofs.BitsLemmas.{length-bits, count-complement}
use Rattle.vb_select.proofs.next.all_set.Goals as goal

pub returns : goal.returns
returns c =
    let l = bits c.args.bytes.now c.args.offset c.args.len in
    let len = length-bits c.args.bytes.now c.args.offset c.args.len in
    let all = count-complement l in (
      λ t. omega (arith, len, all, c.is_without.ensures.0 t),
      λ e. c.is_without.ensures.1 (omega (arith, len, all, e)),
    )
