use Rattle.std.proofs.Common.{◌+◌, ◌-◌, ◌*◌, ◌/◌, ◌∙◌, sym, arith}
use Rattle.std.proofs.lemmas.Bool.{eqb-true, eq-eqb}
use Rattle.vb_bits.specs.declared.equal.TheConstants.{BLOCK_WORDS}
use Rattle.vb_bits.proofs.EqualLemmas.{same-three}
use Rattle.vb_bits.proofs.equal.equal_many_words.Goals as goal
use Rattle.vb_bits.proofs.equal.equal_many_words.Goals.{then-differing_digits-eq0}
use Rattle.vb_bits.proofs.equal.equal_many_words.Goals.{else-differing_digits-eq0}

pub returns-then-equal_blocks : goal.returns-then-equal_blocks
returns-then-equal_blocks c =
    let h = c.min-lead.result in
    let m = BLOCK_WORDS * ((c.args.n - h) / BLOCK_WORDS) in
    let n = c.args.n - (h + m) in
    let parts = same-three c.args.left.now c.args.right.now
    (8 * c.args.a) c.args.r (64 * h) (64 * m) (64 * n) (64 * c.args.n)
    (8 * (c.args.a + 8 * h))
    (c.args.r + 64 * h) (8 * (c.args.a + 8 * (h + m))) (c.args.r + 64 * (h + m))
    (omega (arith, c.min-lead.ensures)) (omega arith) (omega arith) (omega arith)
    (omega arith) (omega (arith, c.min-lead.ensures)) (omega (arith, c.min-lead.ensures)) in
    elim c.if-differing_digits-eq0.branch [
      | then-differing_digits-eq0 w ↦ (
        λ t. parts.1 (
          c.differing_digits.ensures.0 w.if-differing_digits-eq0.true,
          w.equal_blocks.ensures.0 (sym w.value-is ∙ c.if-equal_blocks.true),
          c.differing_digits-then-equal_blocks.ensures.0 (eqb-true _ _ t),
        ),
        λ e. eq-eqb _ _ (c.differing_digits-then-equal_blocks.ensures.1 (parts.0 e).2),
      )
      | else-differing_digits-eq0 w ↦ absurd
          (w.if-differing_digits-eq0.false (eqb-true _ _ (sym w.value-is ∙ c.if-equal_blocks.true)))
    ]

pub returns-else-equal_blocks : goal.returns-else-equal_blocks
returns-else-equal_blocks c =
    let h = c.min-lead.result in
    let m = BLOCK_WORDS * ((c.args.n - h) / BLOCK_WORDS) in
    let n = c.args.n - (h + m) in
    let parts = same-three c.args.left.now c.args.right.now
    (8 * c.args.a) c.args.r (64 * h) (64 * m) (64 * n) (64 * c.args.n)
    (8 * (c.args.a + 8 * h))
    (c.args.r + 64 * h) (8 * (c.args.a + 8 * (h + m))) (c.args.r + 64 * (h + m))
    (omega (arith, c.min-lead.ensures)) (omega arith) (omega arith) (omega arith)
    (omega arith) (omega (arith, c.min-lead.ensures)) (omega (arith, c.min-lead.ensures)) in (
      λ t. absurd cc,
      λ e. elim c.if-differing_digits-eq0.branch [
        | then-differing_digits-eq0 w ↦ w.value-is ∙ w.equal_blocks.ensures.1 (parts.0 e).1
        | else-differing_digits-eq0 w ↦
            absurd (w.if-differing_digits-eq0.false (c.differing_digits.ensures.1 (parts.0 e).0))
      ],
    )
