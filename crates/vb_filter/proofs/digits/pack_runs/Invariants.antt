use Rattle.std.proofs.Common.{◌≡◌, ◌^◌, ◌<◌, ◌++◌, length}
use Rattle.vb_bits.specs.Digits.{digits}
use Rattle.vb_filter.proofs.PackedDigits.{kept_digits}
use Rattle.vb_filter.proofs.digits.pack_runs.Given as goal

-- the bits packed so far, and those at the ones that are left
abbrev pub invariant-loop-left : goal.invariant-loop-left
invariant-loop-left l = record {
  kept : digits l.packed 0 l.n ++ kept_digits l.left l.word 0 64
      ≡ kept_digits l.mask l.word 0 64;
  clear : l.packed < 2 ^ l.n;
  fits : l.left < 2 ^ 64;
}

abbrev pub decreases-loop-left : goal.decreases-loop-left
decreases-loop-left l = length (kept_digits l.left l.word 0 64)
