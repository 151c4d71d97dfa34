use Rattle.std.proofs.Common.{◌≡◌, ◌^◌, ◌<◌, ◌++◌}
use Rattle.vb_bits.specs.Digits.{digits}
use Rattle.vb_filter.proofs.PackedDigits.{kept_digits}
use Rattle.vb_filter.proofs.PackedSteps.{ones_taken}
use Rattle.vb_filter.proofs.digits.pack_steps.Given as goal

-- the bits packed so far, and those at the ones that are left
abbrev pub invariant-loop-n : goal.invariant-loop-n
invariant-loop-n l = record {
  kept : digits l.packed 0 (ones_taken l.mask l.n) ++ kept_digits l.left l.word 0 64
      ≡ kept_digits l.mask l.word 0 64;
  clear : l.packed < 2 ^ ones_taken l.mask l.n;
  fits : l.left < 2 ^ 64;
}
