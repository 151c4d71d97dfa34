use Rattle.std.proofs.Common.{◌≡◌, ℕ, ◌*◌, ◌/◌, ◌^◌, ◌<◌, ◌≤◌, false}
use Rattle.vb_bits.specs.Bits.{count}
use Rattle.vb_bits.specs.Digits.{digits, has_bit}
use Rattle.vb_filter.proofs.SpreadDigits.{spread_digit}
use Rattle.vb_filter.proofs.spread.spread_sixes.Given as goal

-- the bits of the sixes so far, no ones after them, and the source of those that follow
abbrev pub invariant-loop-k : goal.invariant-loop-k
invariant-loop-k l = record {
  low : (i : ℕ) → i < 6 * l.k → i < 64 → has_bit l.spread i ≡ spread_digit l.mask l.word i;
  clear : (i : ℕ) → 6 * l.k ≤ i → i < 64 → has_bit l.spread i ≡ false;
  from : l.source ≡ l.word / 2 ^ count (digits l.mask 0 (6 * l.k));
}
