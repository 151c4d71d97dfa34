use Rattle.std.proofs.Common.{◌+◌, ◌*◌, ◌∙◌, refl, sym, arith}
use Rattle.vb_bits.proofs.BitsLemmas.{bits_none}
use Rattle.vb_bits.proofs.ReadLemmas.{digits_of_word}
use Rattle.vb_bits.proofs.EqualLemmas.{differing-add}
use Rattle.vb_bits.proofs.equal.differing_whole.Goals as goal

pub loop-k-init : goal.loop-k-init
loop-k-init c = (
  λ _. bits_none c.args.left.now
      (8 * c.args.a) ∙ sym (bits_none c.args.right.now (8 * c.args.b)),
  λ _. refl,
)

pub loop-k-preserved : goal.loop-k-preserved
loop-k-preserved c =
    let k = c.loop-k.k in let v = c.word_at in let w = c.word_at-in-loop-k in
    differing-add c.args.left.now c.args.right.now (8 * c.args.a) (8 * c.args.b) (64 * k) _ _ _
    (64 * (k + 1)) (8 * (c.args.a + 8 * k)) (8 * (c.args.b + 8 * k))
    v.type_inv w.type_inv c.loop-k.invariant
    (digits_of_word c.args.left.now v.result (c.args.a + 8 * k) v.ensures)
    (digits_of_word c.args.right.now w.result (c.args.b + 8 * k) w.ensures)
    (omega arith) (omega arith) (omega arith)
