use Rattle.std.proofs.Common.{◌≡◌, ℕ, ◌+◌, ◌*◌, ◌/◌, ◌%◌, ap, subst, ◌∙◌, arith}
use Rattle.vb_bits.specs.Bits.{bits}
use Rattle.vb_bits.specs.Digits.{digits}
use Rattle.vb_bits.specs.Operators.{merged_by}
use Rattle.vb_bits.specs.Writes.{Writes}
use Rattle.vb_bits.proofs.OperatorsLemmas.{Writes_merged_none}
use Rattle.vb_bits.proofs.few.merge_few.Goals as goal

pub returns-then-d-eq0 : goal.returns-then-d-eq0
returns-then-d-eq0 g c =
    let b = c.args.dst.now in
    let new = c.merge_in_word.new.dst in
    let src = c.args.src.now in
    let d : ℕ = c.args.d in
    let s : ℕ = c.args.s in
    let at : 8 * (d / 8) + 0 ≡ d = omega (arith, c.if-d-eq0.true) in
    let from : 8 * (s / 8) + s % 8 ≡ s = omega arith in
    let many : 64 ≡ c.args.len = omega (arith, c.if-len-eq64.true) in
    let read : digits c.full_word.result 0 64 ≡ bits src s 64 =
    c.full_word.ensures ∙ ap (λ k. bits src k 64) from in
    subst (λ n. Writes b new d (merged_by g.M.Merge.bit (bits b d n) (bits src s n))) many
    (subst (λ l. Writes b new d (merged_by g.M.Merge.bit (bits b d 64) l)) read
    (subst (λ k. Writes b new k (merged_by g.M.Merge.bit (bits b k 64)
    (digits c.full_word.result 0 64))) at c.merge_in_word.ensures))

pub returns-then-len-gt0 : goal.returns-then-len-gt0
returns-then-len-gt0 g c =
    let b = c.args.dst.now in let d = c.args.d in
    subst (λ l. Writes b c.merge_digits.new.dst d
    (merged_by g.M.Merge.bit (bits b d c.args.len) l)) c.read_loose.ensures c.merge_digits.ensures

pub returns-else-len-gt0 : goal.returns-else-len-gt0
returns-else-len-gt0 g c =
    Writes_merged_none g.M.Merge.bit c.args.dst.now c.args.src.now c.args.d c.args.s c.args.len
    (omega (arith, c.if-len-gt0.false))
