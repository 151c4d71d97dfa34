use Rattle.std.proofs.Common.{◌≡◌, ◌+◌, ◌-◌, refl, arith}
use Rattle.vb_bits.proofs.WritesLemmas.{Writes-complement}
use Rattle.vb_bits.proofs.map.map_words.Goals as goal

pub returns-then-last-first : goal.returns-then-last-first
returns-then-last-first c =
    let all : c.args.offset + c.args.len - c.args.offset ≡ c.args.len = omega arith in
    rw all at c.negate_in_byte.ensures

pub returns : goal.returns
returns c =
    let words = Writes-complement _ _ _ _ _ _ _ _ c.negate_in_byte-2.ensures c.negate_words.ensures
    (omega arith) refl in
    let bytes = Writes-complement _ _ _ _ _ _ _ _ words c.negate_bytes.ensures (omega arith) refl in
    Writes-complement _ _ _ _ _ _ _ _ bytes c.negate_in_byte-3.ensures (omega arith) (omega arith)
