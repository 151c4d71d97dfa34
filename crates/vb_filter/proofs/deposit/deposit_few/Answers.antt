use Rattle.std.proofs.Common.{◌≡◌, ℕ, ◌+◌, ◌-◌, take, ap, subst, ◌∙◌, arith}
use Rattle.std.specs.Prelude.{slice_range}
use Rattle.std.proofs.lemmas.List.{take_all}
use Rattle.vb_bits.specs.Writes.{Writes}
use Rattle.vb_view.specs.View.{bits_of}
use Rattle.vb_filter.specs.Spread.{spread_by}
use Rattle.vb_filter.proofs.deposit.deposit_few.Goals as goal

pub returns : goal.returns
returns c =
    let mask = bits_of c.args.mask in
    let values = bits_of c.args.values in
    let n : ℕ = c.len-total.result in
    let long : 0 + n - 0 ≡ n = omega arith in
    let all : slice_range mask 0 (0 + n) ≡ mask =
    ap (λ k. take k mask) long ∙ take_all n mask (omega (arith, c.len-total.ensures)) in
    subst (Writes c.args.out.now c.write_digits.new.dst c.args.offset)
    (c.spread_digits_of-word.ensures.spread ∙ ap (λ m. spread_by m values) all)
    c.write_digits.ensures
