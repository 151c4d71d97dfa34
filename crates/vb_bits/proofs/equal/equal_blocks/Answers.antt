use Rattle.std.proofs.Common.{◌+◌, ◌-◌, ◌*◌, ◌∙◌, refl, sym, arith}
use Rattle.vb_bits.specs.declared.equal.TheConstants.{BLOCK_WORDS}
use Rattle.vb_bits.proofs.BitsLemmas.{bits_none}
use Rattle.vb_bits.proofs.EqualLemmas.{same-three, same-bits-add, same-at}
use Rattle.vb_bits.proofs.equal.equal_blocks.Goals as goal

pub loop-k-init : goal.loop-k-init
loop-k-init c = bits_none c.args.left.now (8 * c.args.a) ∙ sym (bits_none c.args.right.now c.args.r)

pub returns-then-differing_digits-ne0 : goal.returns-then-differing_digits-ne0
returns-then-differing_digits-ne0 c =
    let d = BLOCK_WORDS * c.loop-k.k in let n = c.args.n in
    let parts = same-three c.args.left.now c.args.right.now (8 * c.args.a) c.args.r
    (64 * d) (64 * BLOCK_WORDS) (64 * (BLOCK_WORDS * (n - (c.loop-k.k + 1))))
    (64 * (BLOCK_WORDS * n)) (8 * (c.args.a + 8 * d)) (c.args.r + 64 * d)
    (8 * (c.args.a + 8 * (d + BLOCK_WORDS))) (c.args.r + 64 * (d + BLOCK_WORDS))
    (omega arith) (omega arith) (omega arith) (omega arith) (omega arith)
    (omega arith) (omega arith) in (
      λ t. absurd cc,
      λ e. absurd (c.if-differing_digits-ne0.true (c.differing_digits.ensures.1 (parts.0 e).1)),
    )

pub loop-k-preserved : goal.loop-k-preserved
loop-k-preserved c =
    let b = c.args.left.now in
    let t = c.args.right.now in
    let o = 8 * c.args.a in
    let p = c.args.r in
    let d = BLOCK_WORDS * c.loop-k.k in
    let here = same-at b t (8 * (c.args.a + 8 * d)) (p + 64 * d) (64 * BLOCK_WORDS)
    (o + 64 * d) (p + 64 * d) (64 * BLOCK_WORDS) (omega arith) refl refl
    (c.differing_digits.ensures.0 c.if-differing_digits-ne0.false) in
    same-at b t o p (64 * d + 64 * BLOCK_WORDS) o p (64 * (BLOCK_WORDS * (c.loop-k.k + 1)))
    refl refl (omega arith)
    ((same-bits-add b t o p (64 * d) (64 * BLOCK_WORDS)).1 (c.loop-k.invariant, here))
