use Rattle.std.proofs.Common.{◌≡◌, ℕ, ◌+◌, ◌*◌, ◌/◌, ◌%◌, ap, subst, ◌∙◌, arith}
use Rattle.vb_bits.specs.Bits.{bits}
use Rattle.vb_bits.specs.Digits.{digits}
use Rattle.vb_bits.specs.Operators.{merged_by}
use Rattle.vb_bits.specs.Writes.{Writes}
use Rattle.vb_bits.proofs.OperatorsLemmas.{Writes_into_digits, Writes_into_none, Writes_right}
use Rattle.vb_bits.proofs.into.merge_few_into.Goals as goal

pub returns-then-len-eq0 : goal.returns-then-len-eq0
returns-then-len-eq0 g c =
    Writes_into_none g.M.Merge.bit c.args.out.now c.args.left.now c.args.right.now c.args.o c.args.l
    c.args.r c.args.len (omega (arith, c.if-len-eq0.true))

pub returns-then-o-eq0 : goal.returns-then-o-eq0
returns-then-o-eq0 g c =
    let b = c.args.out.now in
    let new = c.write_word.new.bytes in
    let left = c.args.left.now in
    let right = c.args.right.now in
    let o : ℕ = c.args.o in
    let l : ℕ = c.args.l in
    let r : ℕ = c.args.r in
    let at : 8 * (o / 8) ≡ o = omega (arith, c.if-o-eq0.true) in
    let first : 8 * (l / 8) + l % 8 ≡ l = omega arith in
    let second : 8 * (r / 8) + r % 8 ≡ r = omega arith in
    let many : 64 ≡ c.args.len = omega (arith, c.if-len-eq64.true) in
    subst (λ n. Writes b new o (merged_by g.M.Merge.bit (bits left l n) (bits right r n))) many
    (Writes_into_digits g.M.Merge.bit b new left right o l r 64 c.word.result
    c.full_word-first.result c.full_word-second.result (omega arith)
    (c.full_word-first.ensures ∙ ap (λ k. bits left k 64) first)
    (c.full_word-second.ensures ∙ ap (λ k. bits right k 64) second) c.word.ensures
    (subst (λ k. Writes b new k (digits c.word.result 0 64)) at c.write_word.ensures))

pub returns : goal.returns
returns g c =
    let b = c.args.out.now in let n = c.args.len in
    Writes_into_digits g.M.Merge.bit b c.merge_digits.new.dst c.args.left.now c.args.right.now
    c.args.o c.args.l c.args.r n c.word-2.result c.read_loose-first.result
    c.read_loose-second.result c.requires.in_word
    c.read_loose-first.ensures c.read_loose-second.ensures c.word-2.ensures
    (Writes_right b c.merge_digits.new.dst c.args.o n c.word-2.result c.merge_digits.ensures)
