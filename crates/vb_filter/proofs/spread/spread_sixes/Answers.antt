use Rattle.std.proofs.Common.{◌≡◌, ℕ, ◌+◌, ◌*◌, ◌/◌, ◌^◌, eqb, get_or, sym, ap}
use Rattle.std.proofs.Common.{◌∙◌, arith}
use Rattle.std.specs.Prelude.{bit_and}
use Rattle.std.proofs.lemmas.Nat.Bits.{bit_at-zero}
use Rattle.vb_bits.specs.Bits.{count}
use Rattle.vb_bits.specs.Digits.{digits, has_bit}
use Rattle.vb_bits.proofs.DigitsLemmas.{count-digits_none, ones_masked}
use Rattle.vb_filter.specs.declared.spread_table.TheConstants.{SPREAD}
use Rattle.vb_filter.proofs.PendingLemmas.{joined}
use Rattle.vb_filter.proofs.SpreadDigits.{sixes-low, sixes-clear, sixes-source, ones-le, is_spread}
use Rattle.vb_filter.proofs.spread.spread_sixes.Goals as goal

pub loop-k-init : goal.loop-k-init
loop-k-init c = record {
  low = λ i h within. absurd (omega arith);
  clear = λ i h within. ap (λ x. eqb x 1) (bit_at-zero i);
  from =
      let whole : c.args.word / 2 ^ 0 ≡ c.args.word = omega arith in
      sym (ap (λ n. c.args.word / 2 ^ n) (count-digits_none c.args.mask 0) ∙ whole);
}

pub loop-k-preserved : goal.loop-k-preserved
loop-k-preserved c =
    let mask : ℕ = c.args.mask in
    let word : ℕ = c.args.word in
    let spread : ℕ = c.loop-k.spread in
    let source : ℕ = c.loop-k.source in
    let s : ℕ = 6 * c.loop-k.k in
    let inv = c.loop-k.invariant in
    let row = 64 * bit_and (mask / 2 ^ s) 63 + bit_and source 63 in
    let found : c.from.result ≡ get_or SPREAD row 0 = c.from.ensures in
    let made : joined spread c.from.result s ≡ joined spread (get_or SPREAD row 0) s =
    ap (λ x. joined spread x s) found in
    let next : 6 * (c.loop-k.k + 1) ≡ s + 6 = omega arith in
    record {
      low = λ i h within. ap (λ x. has_bit x i) made
          ∙ sixes-low spread source mask word s inv.from inv.low inv.clear i (omega arith) within;
      clear = λ i h within. ap (λ x. has_bit x i) made
          ∙ sixes-clear spread source mask word s inv.from inv.low inv.clear i (omega arith) within;
      from = sixes-source spread source mask word s inv.from inv.low inv.clear
          ∙ ap (λ x. word / 2 ^ count (digits mask 0 x)) (sym next);
    }

pub overflow_shr-source : goal.overflow_shr-source
overflow_shr-source c =
    let mask : ℕ = c.args.mask in
    let s : ℕ = 6 * c.loop-k.k in
    omega (arith, ones_masked mask s 6 (omega arith), ones-le mask s 6)

pub returns : goal.returns
returns c =
    is_spread c.loop-k.spread c.args.mask c.args.word
    (λ i within. c.loop-k.invariant.low i (omega arith) within)
