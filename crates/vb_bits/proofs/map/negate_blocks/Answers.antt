use Rattle.std.proofs.Common.{◌+◌, ◌*◌, ◌-◌, ◌^◌, ap, subst, replicate, ◌∙◌, arith}
use Rattle.std.proofs.lemmas.Simd.{length-zip2}
use Rattle.std.specs.Prelude.{bit_xor}
use Rattle.vb_bits.specs.Bits.{complement}
use Rattle.vb_bits.specs.Writes.{Writes}
use Rattle.vb_bits.proofs.LanesLemmas.{lane_bits-complement}
use Rattle.vb_bits.proofs.WritesLemmas.{Writes_negated_none, Writes-complement}
use Rattle.vb_bits.proofs.map.negate_blocks.Goals as goal

pub loop-k-init : goal.loop-k-init
loop-k-init c = Writes_negated_none _ _ _ (omega arith)

pub write_words-requires-clause-len : goal.write_words-requires-clause-len
write_words-requires-clause-len c =
    let words = c.words_at-words in
    length-zip2 bit_xor words.result (replicate 4 (2 ^ 64 - 1)) words.ensures.len
    ∙ words.ensures.len

pub loop-k-preserved : goal.loop-k-preserved
loop-k-preserved c =
    let words = c.words_at-words in
    let step = subst (Writes c.loop-k.bytes c.write_words.new.bytes
    (8 * (c.args.at + 32 * c.loop-k.k))) (lane_bits-complement words.result words.ensures.len
    ∙ ap complement words.ensures.digits) c.write_words.ensures in
    Writes-complement _ _ _ _ _ _ _ _ c.loop-k.invariant step (omega arith) (omega arith)
