use Rattle.std.proofs.Common.{◌≡◌, ◌+◌, ◌-◌, ◌*◌, subst, arith}
use Rattle.vb_bits.specs.Bits.{bits}
use Rattle.vb_bits.specs.Digits.{digits}
use Rattle.vb_bits.specs.Operators.{merged_by}
use Rattle.vb_bits.specs.Writes.{Writes}
use Rattle.vb_bits.proofs.few.merge_in_eight.Goals as goal

pub returns : goal.returns
returns g c =
    let b = c.args.dst.now in let d = c.args.d in let n = c.args.count in
    let f = c.min-first.result in
    let place : 8 * f + (d - 8 * f) ≡ d = omega (arith, c.min-first.ensures) in
    subst (λ o. Writes b c.merge_in_word.new.dst o
    (merged_by g.M.Merge.bit (bits b o n) (digits c.args.right 0 n))) place c.merge_in_word.ensures
