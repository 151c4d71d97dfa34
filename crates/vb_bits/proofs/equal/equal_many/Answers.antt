use Rattle.std.proofs.Common.{◌+◌, ◌-◌, ◌*◌, ◌/◌, ◌%◌, ◌∙◌, sym, arith}
use Rattle.vb_bits.proofs.EqualLemmas.{same-three}
use Rattle.vb_bits.proofs.equal.equal_many.Goals as goal
use Rattle.vb_bits.proofs.equal.equal_many.Goals.{then-equal_in_eight, else-equal_in_eight}

pub returns-then-equal_words : goal.returns-then-equal_words
returns-then-equal_words c =
    let l = c.args.l in
    let r = c.args.r in
    let k = c.args.len in
    let h = 64 - l % 64 in
    let m = (k - h) / 64 in
    let parts = same-three c.args.left.now c.args.right.now l r h
    (64 * m) 64 k (8 * ((l + h) / 8)) (r + h) (l + (k - 64)) (r + (k - 64))
    (omega arith) (omega arith) (omega arith) (omega arith) (omega arith)
    (omega arith) (omega arith) in
    elim c.if-equal_in_eight.branch [
      | then-equal_in_eight w ↦ (
        λ t. parts.1 (
          c.equal_in_eight.ensures.0 w.if-equal_in_eight.true,
          w.equal_words.ensures.0
              (sym w.value-is ∙ c.if-equal_words.true),
          c.equal_in_eight-then-equal_words.ensures.0 t,
        ),
        λ e. c.equal_in_eight-then-equal_words.ensures.1 (parts.0 e).2,
      )
      | else-equal_in_eight w ↦ absurd cc
    ]

pub returns-else-equal_words : goal.returns-else-equal_words
returns-else-equal_words c =
    let l = c.args.l in
    let r = c.args.r in
    let k = c.args.len in
    let h = 64 - l % 64 in
    let m = (k - h) / 64 in
    let parts = same-three c.args.left.now c.args.right.now l r h
    (64 * m) 64 k (8 * ((l + h) / 8)) (r + h) (l + (k - 64)) (r + (k - 64))
    (omega arith) (omega arith) (omega arith) (omega arith) (omega arith)
    (omega arith) (omega arith) in (
      λ t. absurd cc,
      λ e. elim c.if-equal_in_eight.branch [
        | then-equal_in_eight w ↦ w.value-is ∙ w.equal_words.ensures.1 (parts.0 e).1
        | else-equal_in_eight w ↦
            let first = c.equal_in_eight.ensures.1 (parts.0 e).0 in
            let none = w.if-equal_in_eight.false in
            absurd cc
      ],
    )
