use Rattle.std.proofs.Common.{◌≡◌, ◌+◌, List, ℤ, map, length, subst, arith}
use Rattle.std.proofs.Common.{zero-add}
use Rattle.std.proofs.lemmas.List.{length-map}
use Rattle.std.specs.Option.{option_map}
use Rattle.vb_bits.specs.Bits.{bit_of}
use Rattle.vb_bits.specs.Digits.{digits}
use Rattle.vb_bits.specs.Writes.{Writes}
use Rattle.vb_bits.proofs.DigitsLemmas.{length-digits}
use Rattle.vb_bits.proofs.KeepsLemmas.{Writes-inside_none, Writes-inside}
use Rattle.vb_view.specs.View.{bits_of}
use Rattle.vb_take.specs.Takes.{taken_at, TakenTo, IsFirstPast}
use Rattle.vb_take.proofs.TakesLemmas.{TakenTo-word, IsFirstPast-part, IsTaken-all}
use Rattle.vb_take.proofs.take.take_into_at.Goals as goal

pub returns-in-Err-clause-past : goal.returns-in-Err-clause-past
returns-in-Err-clause-past g c =
    let xs : List ℤ = map g.I.BitIndex.number c.args.indices.now in
    let valid = option_map bits_of c.args.validity in
    subst (IsFirstPast (bits_of c.args.bits) xs valid) (zero-add c.in-Err.k)
    (IsFirstPast-part (bits_of c.args.bits) xs valid 0
    (length c.args.indices.now) c.in-Err.k (λ i. bit_of c.args.out.now (c.args.o + i))
    (λ i h. absurd (omega arith))
    (omega (arith, length-map c.args.indices.now g.I.BitIndex.number)) c.in-Err.ensures)

pub returns-in-Err-clause-others : goal.returns-in-Err-clause-others
returns-in-Err-clause-others g c =
    Writes-inside_none c.args.out.now c.args.o (length c.args.indices.now)

pub returns-clause-taken : goal.returns-clause-taken
returns-clause-taken g c =
    let n = length c.args.indices.now in
    let out = c.args.out.now in
    let new = c.write_digits.new.dst in
    let taken = taken_at (bits_of c.args.bits) (map g.I.BitIndex.number c.args.indices.now)
    (option_map bits_of c.args.validity) in
    let first : c.args.o ≡ c.args.o + 0 = omega arith in
    IsTaken-all g.I.BitIndex.number (bits_of c.args.bits) c.args.indices.now
    (option_map bits_of c.args.validity) new c.args.o
    (subst (λ k. TakenTo k taken (λ i. bit_of new (c.args.o + i))) (zero-add n)
    (TakenTo-word c.args.o 0 n taken out new c.in-Ok.word (λ i h. absurd (omega arith))
    c.in-Ok.ensures
    (subst (λ k. Writes out new k (digits c.in-Ok.word 0 n)) first c.write_digits.ensures)))

pub returns-clause-others : goal.returns-clause-others
returns-clause-others g c =
    let n = length c.args.indices.now in
    Writes-inside c.args.out.now c.args.out.now c.write_digits.new.dst c.args.o n c.args.o
    (digits c.in-Ok.word 0 n) (Writes-inside_none c.args.out.now c.args.o n)
    c.write_digits.ensures (omega arith) (omega (arith, length-digits c.in-Ok.word 0 n))
