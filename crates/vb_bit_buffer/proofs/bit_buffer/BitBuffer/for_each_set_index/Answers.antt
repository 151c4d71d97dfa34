use Rattle.std.proofs.Common.{◌≡◌, true, ◌+◌, refl, rules, sym, ap, ◌∙◌, subst}
use Rattle.std.specs.List.{FoldsTo}
use Rattle.vb_bits.specs.Bits.{bit_of, bits, places}
use Rattle.vb_pack.specs.Asked.{CanAsk}
use Rattle.vb_walk.proofs.PlacesLemmas.{places-bits}
use Rattle.vb_bit_buffer.specs.Called.{places_of}
use Rattle.vb_bit_buffer.proofs.bit_buffer.BitBuffer.for_each_set_index.Goals as goal

pub for_each_place-requires-clause-callable : goal.for_each_place-requires-clause-callable
for_each_place-requires-clause-callable g c =
    let s = c.self.inside in let b = c.as_slice.result.now in
    let seen : c.args.self.now.bits ≡ bits b s.offset s.len = search rules in
    let same : places_of b s.offset true 0 s.len ≡ places (bits b s.offset s.len) =
    places-bits (λ i. bit_of b (s.offset + i)) b s.offset s.len (λ i l. refl) in
    subst (CanAsk (goal.F-pre g) (goal.F-step g) c.args.f.now)
    (ap places seen ∙ sym same) c.requires

pub returns : goal.returns
returns g c =
    let s = c.self.inside in let b = c.as_slice.result.now in
    let seen : c.args.self.now.bits ≡ bits b s.offset s.len = search rules in
    let same : places_of b s.offset true 0 s.len ≡ places (bits b s.offset s.len) =
    places-bits (λ i. bit_of b (s.offset + i)) b s.offset s.len (λ i l. refl) in
    subst (λ xs. FoldsTo (λ p i q. goal.F-step g p i tt q) c.args.f.now xs c.for_each_place.new.f)
    (same ∙ sym (ap places seen)) c.for_each_place.ensures
