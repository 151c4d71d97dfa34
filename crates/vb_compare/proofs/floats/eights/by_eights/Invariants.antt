use Rattle.std.proofs.Common.{◌≡◌, ◌*◌, ◌^◌, ◌<◌, take}
use Rattle.std.specs.Simd.Lanes.{zip2}
use Rattle.vb_bits.specs.Digits.{digits}
use Rattle.vb_compare.proofs.floats.eights.by_eights.Given as goal

-- the eights so far
abbrev pub invariant-loop-k : goal.invariant-loop-k
invariant-loop-k g l = record {
  digits : digits l.word 0 (8 * l.k) ≡ take (8 * l.k) (zip2 (g.C.Eight.holds) l.left l.right);
  clear : l.word < 2 ^ (8 * l.k);
}
