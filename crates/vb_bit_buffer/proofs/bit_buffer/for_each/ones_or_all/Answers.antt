use Rattle.std.proofs.Common.{◌≡◌, ◌-◌, ◌^◌, true, eqb, sym, ap, ◌∙◌, subst, arith}
use Rattle.std.specs.List.{FoldsTo}
use Rattle.std.proofs.lemmas.Nat.Bits.{bit_at_ones}
use Rattle.vb_bits.specs.Digits.{has_bit}
use Rattle.vb_pack.specs.Asked.{CanAsk}
use Rattle.vb_bit_buffer.proofs.CalledLemmas.{ones_of-all}
use Rattle.vb_bit_buffer.proofs.bit_buffer.for_each.ones_or_all.Goals as goal

pub all-requires-clause-fits : goal.all-requires-clause-fits
all-requires-clause-fits g c =
    let full : c.args.word ≡ 2 ^ 64 - 1 = c.if-word-eq18446744073709551615.true in
    let last : has_bit c.args.word 63 ≡ true = ap (λ x. has_bit x 63) full
    ∙ ap (λ x. eqb x 1) (bit_at_ones 64 63 (omega arith)) in
    c.requires.fits 63 last

pub all-requires-clause-callable : goal.all-requires-clause-callable
all-requires-clause-callable g c =
    subst (CanAsk (goal.F-pre g) (goal.F-step g) c.args.f.now)
    (ones_of-all c.args.word c.args.base c.if-word-eq18446744073709551615.true)
    c.requires.callable

pub returns-then-word-eq18446744073709551615 : goal.returns-then-word-eq18446744073709551615
returns-then-word-eq18446744073709551615 g c =
    subst (λ xs. FoldsTo (λ p i q. goal.F-step g p i tt q) c.args.f.now xs c.all.new.f)
    (sym (ones_of-all c.args.word c.args.base c.if-word-eq18446744073709551615.true)) c.all.ensures
