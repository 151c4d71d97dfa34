use Rattle.std.proofs.Common.{◌≡◌, ◌+◌, ◌-◌, ◌*◌, ◌/◌, ◌%◌, subst, arith}
use Rattle.vb_bits.specs.Bits.{bits}
use Rattle.vb_bits.specs.Digits.{digits}
use Rattle.vb_bits.specs.Operators.{merged_by}
use Rattle.vb_bits.specs.Writes.{Writes}
use Rattle.vb_bits.proofs.OperatorsLemmas.{Writes-merged_digits}
use Rattle.vb_bits.proofs.few.merge_digits.Goals as goal

pub returns-then-d-count-gt64 : goal.returns-then-d-count-gt64
returns-then-d-count-gt64 g c =
    let b = c.args.dst.now in let d = c.args.d in let n = c.args.count in
    let w = c.args.right in let h = 64 - d % 8 in let f = g.M.Merge.bit in
    let one = c.merge_in_word.new.dst in
    let place : 8 * (d / 8) + d % 8 ≡ d = omega arith in
    Writes-merged_digits f b one c.merge_in_byte.new.dst d (8 * (d / 8 + 8)) h (n - h) n w
    (subst (λ o. Writes b one o (merged_by f (bits b o h) (digits w 0 h))) place
    c.merge_in_word.ensures)
    c.merge_in_byte.ensures (omega arith) (omega (arith, c.if-d-count-gt64.true))
