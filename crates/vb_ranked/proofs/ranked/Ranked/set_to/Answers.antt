use Rattle.std.proofs.Common.{◌≡◌, ℕ, Bool, true, false, not, List, Some, ◌<◌, ◌^◌, length}
use Rattle.std.proofs.Common.{get_or, slice_get, set, refl, sym, ap, ◌∙◌, arith, subst}
use Rattle.std.proofs.lemmas.List.{set-get_or}
use Rattle.std.proofs.lemmas.Option.{get_or_from_slice_get}
use Rattle.std.proofs.Math.Bool.{beq}
use Rattle.vb_bits.specs.Bits.{at}
use Rattle.vb_bits.proofs.BitsLemmas.{length-bits}
use Rattle.vb_set.specs.View.{bits_of}
use Rattle.vb_directory.specs.Counts.{AreCounts}
use Rattle.vb_ranked.proofs.ranked.Ranked.set_to.Goals as goal

-- a test whether two values differ, and the negation of a value
other_value : (a b : Bool) → not (beq a b) ≡ true → a ≡ not b
other_value true true e = cc
other_value true false e = refl
other_value false true e = refl
other_value false false e = cc

same_value : (a b : Bool) → not (beq a b) ≡ false → a ≡ b
same_value true true e = refl
same_value true false e = cc
same_value false true e = cc
same_value false false e = refl

-- the bit that a view shows is the bit of the list
bit_read : (k l : List Bool) (i : ℕ) (v : Bool) → k ≡ l → slice_get k i ≡ Some v → at l i ≡ v
bit_read k l i v same read = get_or_from_slice_get l i v false (rw same at read)

pub move_behind-requires : goal.move_behind-requires
move_behind-requires g c = omega (
  arith,
  c.self.invariant.exact.long,
  c.requires,
  ap (λ s. length s.bits) c.self.view_is,
)

pub invariant_of-self : goal.invariant_of-self
invariant_of-self g c =
    let l : List Bool = c.self.inside.set.bits in
    let shown : bits_of c.as_view.result ≡ l =
    c.as_view.ensures.bits ∙ sym (ap (λ s. s.bits) c.self.view_is) in
    let bit : at l c.args.i ≡ not c.args.v =
    bit_read (bits_of c.as_view.result) l c.args.i c.value-was.result shown c.value-was.ensures
    ∙ other_value c.value-was.result c.args.v c.if-was-v.true in
    let fits : length l < 2 ^ 64 = omega (
      arith,
      ap length shown,
      length-bits c.as_view.result.bytes.now c.as_view.result.offset c.as_view.result.len,
      c.as_view.result.fits,
    ) in
    let moved = c.move_behind.ensures.moved l c.self.invariant.exact fits
    (omega (arith, c.requires, ap (λ s. length s.bits) c.self.view_is)) bit in
    let keeps = c.set_to.ensures.keeps in
    record {
      exact = subst (λ x. AreCounts x c.move_behind.new.self.numbers) (sym c.set_to.ensures.bits)
          moved;
      held = λ some. rw (keeps.room, c.move_behind.ensures.room)
          (c.self.invariant.held (omega (arith, some, keeps.len)));
    }

pub invariant_of-self-else-was-v : goal.invariant_of-self-else-was-v
invariant_of-self-else-was-v g c =
    let l : List Bool = c.self.inside.set.bits in
    let bit : get_or l c.args.i false ≡ c.args.v =
    bit_read (bits_of c.as_view.result) l c.args.i c.value-was.result
    (c.as_view.ensures.bits ∙ sym (ap (λ s. s.bits) c.self.view_is)) c.value-was.ensures
    ∙ same_value c.value-was.result c.args.v c.if-was-v.false in
    let stays : set l c.args.i c.args.v ≡ l =
    ap (set l c.args.i) (sym bit) ∙ set-get_or l c.args.i false in
    let keeps = c.set_to.ensures.keeps in
    record {
      exact = subst (λ x. AreCounts x c.self.inside.counts.numbers)
          (sym (c.set_to.ensures.bits ∙ stays)) c.self.invariant.exact;
      held = λ some. rw keeps.room (c.self.invariant.held (omega (arith, some, keeps.len)));
    }
