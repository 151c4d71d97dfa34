use Rattle.std.proofs.Common.{ℕ, ◌+◌, ◌*◌, ◌≤◌, List, ℤ, map, length, arith}
use Rattle.std.proofs.lemmas.List.{length-map}
use Rattle.std.specs.Option.{option_map}
use Rattle.vb_bits.specs.Bits.{bit_of}
use Rattle.vb_bits.specs.Digits.{digits}
use Rattle.vb_bits.proofs.DigitsLemmas.{length-digits}
use Rattle.vb_bits.proofs.KeepsLemmas.{Writes-inside_none, Writes-inside}
use Rattle.vb_view.specs.View.{bits_of}
use Rattle.vb_take.specs.Takes.{taken_at, TakenTo}
use Rattle.vb_take.proofs.TakesLemmas.{TakenTo-word, IsFirstPast-part, IsTaken-all}
use Rattle.vb_take.proofs.take.take_many.Goals as goal

pub loop-t-init : goal.loop-t-init
loop-t-init g c = record {
  taken = λ n none inside i h. absurd (omega arith);
  written = Writes-inside_none c.args.out.now c.args.o (length c.args.indices.now);
}

pub returns-in-Err-clause-past : goal.returns-in-Err-clause-past
returns-in-Err-clause-past g c =
    let xs : List ℤ = map g.I.BitIndex.number c.args.indices.now in
    let n : ℕ = 64 * c.loop-t.t in
    let m : ℕ = c.min-count.result in
    let begun : n ≤ length c.args.indices.now = omega (arith, c.div_ceil-t-end.ensures) in
    IsFirstPast-part (bits_of c.args.bits) xs (option_map bits_of c.args.validity) n m c.in-Err.k
    (λ i. bit_of c.loop-t.out (c.args.o + i)) (c.loop-t.invariant.taken n (omega arith) begun)
    (omega (arith, begun, c.min-count.ensures, length-map c.args.indices.now g.I.BitIndex.number))
    c.in-Err.ensures

pub loop-t-preserved : goal.loop-t-preserved
loop-t-preserved g c =
    let xs : List ℤ = map g.I.BitIndex.number c.args.indices.now in
    let taken = taken_at (bits_of c.args.bits) xs (option_map bits_of c.args.validity) in
    let n : ℕ = 64 * c.loop-t.t in
    let m : ℕ = c.min-count.result in
    let word : ℕ = c.in-Ok.word in
    let begun : n ≤ length c.args.indices.now = omega (arith, c.div_ceil-t-end.ensures) in
    let more : TakenTo (n + m) taken (λ i. bit_of c.write_digits.new.dst (c.args.o + i)) =
    TakenTo-word c.args.o n m taken c.loop-t.out c.write_digits.new.dst word
    (c.loop-t.invariant.taken n (omega arith) begun) c.in-Ok.ensures c.write_digits.ensures in
    record {
      taken = λ k far inside i h. more i (omega (arith, begun, far, inside, c.min-count.ensures));
      written = Writes-inside c.args.out.now c.loop-t.out c.write_digits.new.dst c.args.o
          (length c.args.indices.now) (c.args.o + n) (digits word 0 m) c.loop-t.invariant.written
          c.write_digits.ensures (omega arith)
          (omega (arith, begun, length-digits word 0 m, c.min-count.ensures));
    }

pub returns-clause-taken : goal.returns-clause-taken
returns-clause-taken g c =
    IsTaken-all g.I.BitIndex.number (bits_of c.args.bits) c.args.indices.now
    (option_map bits_of c.args.validity) c.loop-t.out c.args.o
    (c.loop-t.invariant.taken (length c.args.indices.now)
    (omega (arith, c.div_ceil-t-end.ensures, c.loop-t-test.false)) (omega arith))
