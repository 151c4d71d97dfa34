use Rattle.std.proofs.Common.{ℕ, ◌++◌, length, codes, subst, rules, arith}
use Rattle.std.proofs.Output.{has_written_append, has_written_of_eq}
use Rattle.std.specs.Fmt.{HasWritten, decimal}
use Rattle.vb_bit_buffer.proofs.ShownLemmas.{words_more, shown_parts}
use Rattle.vb_bit_buffer.proofs.bit_buffer.traits.BitBufferDisplay.fmt.Goals as goal

pub loop-i-preserved : goal.loop-i-preserved
loop-i-preserved g c = λ p.
    has_written_of_eq _ _ _ _ _ (words_more _ _ _ _ c.value-bit.ensures
    (omega arith) c.gap_before-gap.ensures.first c.gap_before-gap.ensures.others)
    (has_written_append _ _ _ _ _ _ (c.loop-i.invariant p) (search rules))

pub returns-clause-writes : goal.returns-clause-writes
returns-clause-writes g c = λ p ok.
    let P : ℕ → Type 0 = λ n. HasWritten g.W.Write.write_str_gives c.args.f.now
    (codes "BitBuffer { len: " ++ (decimal n ++ codes ", buffer: [")) c.write.new.self in
    let head : P (length c.args.self.now.bits) = subst P c.len-len.ensures (search rules) in
    let tail : HasWritten g.W.Write.write_str_gives c.loop-i.f (codes "] }") c.write-2.new.self =
    c.write-2.ensures.writes (c.loop-i.invariant head.plain).plain ok in
    has_written_of_eq _ _ _ _ _ (shown_parts c.args.self.now.bits c.loop-i.i
    (omega (arith, c.min-i-end.ensures, c.len-len.ensures)))
    (has_written_append _ _ _ _ _ _
    (has_written_append _ _ _ _ _ _ head (c.loop-i.invariant head.plain)) tail)
