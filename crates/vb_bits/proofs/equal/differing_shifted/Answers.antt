use Rattle.std.proofs.Common.{◌+◌, ◌*◌, ◌/◌, ◌%◌, ◌∙◌, refl, sym, arith}
use Rattle.vb_bits.proofs.BitsLemmas.{bits_none}
use Rattle.vb_bits.proofs.ReadLemmas.{digits_of_word}
use Rattle.vb_bits.proofs.EqualLemmas.{differing-add}
use Rattle.vb_bits.proofs.equal.differing_shifted.Goals as goal

pub loop-k-init : goal.loop-k-init
loop-k-init c = (
  λ _. bits_none c.args.left.now (8 * c.args.a) ∙ sym (bits_none c.args.right.now c.args.r),
  λ _. refl,
)

pub loop-k-preserved : goal.loop-k-preserved
loop-k-preserved c =
    let k = c.loop-k.k in
    differing-add c.args.left.now c.args.right.now (8 * c.args.a) c.args.r (64 * k) _ _ _
    (64 * (k + 1)) (8 * (c.args.a + 8 * k)) (8 * (c.args.r / 8 + 8 * k) + c.args.r % 8)
    c.word_at.type_inv c.shifted_word.type_inv c.loop-k.invariant
    (digits_of_word c.args.left.now c.word_at.result (c.args.a + 8 * k) c.word_at.ensures)
    c.shifted_word.ensures
    (omega arith) (omega arith) (omega arith)
