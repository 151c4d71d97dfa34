use Rattle.std.proofs.Common.{◌≡◌, length, rules, sym, ap, ◌∙◌, subst}
use Rattle.std.specs.List.{FoldsTo}
use Rattle.vb_bits.specs.Bits.{at, bits}
use Rattle.vb_bits.proofs.BitsLemmas.{length-bits}
use Rattle.vb_pack.specs.Asked.{CanAsk, span}
use Rattle.vb_bit_buffer.proofs.bit_buffer.BitBuffer.iter_bits.Goals as goal

pub for_each_bit-requires-clause-callable : goal.for_each_bit-requires-clause-callable
for_each_bit-requires-clause-callable g c =
    let s = c.self.inside in let bytes = c.as_slice.result.now in
    let seen : c.args.self.now.bits ≡ bits bytes s.offset s.len = search rules in
    let len : length c.args.self.now.bits ≡ s.len =
    ap length seen ∙ length-bits bytes s.offset s.len in
    subst (λ l. CanAsk (λ p i. goal.F-pre g p i (at l i))
    (λ p i r q. goal.F-step g p i (at l i) r q) c.args.f.now (span 0 s.len)) seen
    (subst (λ n. CanAsk (λ p i. goal.F-pre g p i (at c.args.self.now.bits i)) (λ p i r q.
    goal.F-step g p i (at c.args.self.now.bits i) r q) c.args.f.now (span 0 n)) len c.requires)

pub returns : goal.returns
returns g c =
    let s = c.self.inside in let bytes = c.as_slice.result.now in let last = c.for_each_bit.new.f in
    let seen : c.args.self.now.bits ≡ bits bytes s.offset s.len = search rules in
    let len : length c.args.self.now.bits ≡ s.len =
    ap length seen ∙ length-bits bytes s.offset s.len in
    subst (λ l. FoldsTo (λ p i q. goal.F-step g p i (at l i) tt q) c.args.f.now
    (span 0 (length c.args.self.now.bits)) last) (sym seen)
    (subst (λ n. FoldsTo (λ p i q. goal.F-step g p i (at (bits bytes s.offset s.len) i) tt q)
    c.args.f.now (span 0 n) last) (sym len) c.for_each_bit.ensures)
