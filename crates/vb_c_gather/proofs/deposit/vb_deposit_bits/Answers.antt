use Rattle.std.proofs.Common.{◌%◌, ◌∙◌, ap, subst}
use Rattle.vb_bits.specs.Bits.{bits, count}
use Rattle.vb_bits.specs.Writes.{Writes}
use Rattle.vb_bits.proofs.BitsLemmas.{length-bits}
use Rattle.vb_bits.proofs.WritesLemmas.{Writes_none}
use Rattle.vb_c_core.proofs.PartLemmas.{part, Writes_in_part}
use Rattle.vb_filter.specs.Spread.{spread_by}
use Rattle.vb_filter.proofs.SpreadLemmas.{length-spread_by}
use Rattle.vb_view.specs.View.{bits_of}
use Rattle.vb_c_gather.proofs.deposit.vb_deposit_bits.Goals as goal

pub returns-then-len-eq0 : goal.returns-then-len-eq0
returns-then-len-eq0 c =
    let a = c.args in
    Writes_none _ _ _ (length-spread_by (bits a.mask.now a.m a.len) _
    ∙ length-bits a.mask.now a.m a.len ∙ c.if-len-eq0.true)

pub returns : goal.returns
returns c =
    let a = c.args in let b = a.out.now in let e = c.div_ceil-end.result in
    let new = c.deposit_into.new.out in let mask = bits a.mask.now a.m a.len in
    let window = c.new_with_offset-mask.ensures.bits in
    let values = c.new_with_offset-values.ensures.bits
    ∙ ap (bits a.bytes.now a.offset) (c.true_count.ensures ∙ ap count window) in
    let same = ap (λ x. spread_by x (bits_of c.new_with_offset-values.result)) window
    ∙ ap (spread_by mask) values in
    Writes_in_part b new a.o e a.len (spread_by mask (bits a.bytes.now a.offset (count mask)))
    (length-spread_by mask _ ∙ length-bits a.mask.now a.m a.len) c.requires.into
    c.div_ceil-end.ensures
    (subst (Writes (part b a.o e) new (a.o % 8)) same c.deposit_into.ensures.spread)
