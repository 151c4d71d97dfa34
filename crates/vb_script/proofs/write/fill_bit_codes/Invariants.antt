use Rattle.std.proofs.Common.{◌≡◌, length, take}
use Rattle.std.specs.List.{flat_map}
use Rattle.vb_command.specs.Printed.{digit_of}
use Rattle.vb_script.proofs.write.fill_bit_codes.Given as goal

-- the first bytes are the digits so far
abbrev pub invariant-loop-k : goal.invariant-loop-k
invariant-loop-k l = record {
  digits : take l.k l.bytes ≡ flat_map digit_of (take l.k l.bits);
  len : length l.bytes ≡ length l.bits;
}
