use Rattle.std.proofs.Common.{◌≡◌, ◌+◌, ◌-◌, ◌*◌, ◌/◌, ◌%◌, ◌++◌, sym, ap, ◌∙◌, arith}
use Rattle.vb_bits.specs.Bits.{bits}
use Rattle.vb_bits.proofs.BitsLemmas.{bits-add}
use Rattle.vb_filter.proofs.filter.filter_into_at.Goals as goal

pub filter_behind-requires-clause-pending : goal.filter_behind-requires-clause-pending
filter_behind-requires-clause-pending c =
    let out = c.args.out.now in
    let o = c.args.offset in
    let place : o - o % 64 ≡ 0 + 64 * (o / 64) = omega arith in
    let whole : 64 * (o / 64) + o % 64 ≡ o = omega arith in
    let front = bits out 0 (64 * (o / 64)) in
    ap (λ l. front ++ l) (c.read_bits-pending.ensures.digits
    ∙ ap (λ k. bits out k (o % 64)) place)
    ∙ sym (bits-add out 0 (64 * (o / 64)) (o % 64)) ∙ ap (bits out 0) whole
