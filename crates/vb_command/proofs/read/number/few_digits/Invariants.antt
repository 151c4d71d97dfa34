use Rattle.std.proofs.Common.{◌≡◌, ◌^◌, ◌<◌, take, drop}
use Rattle.std.specs.Str.{all_ascii_digits}
use Rattle.std.specs.Str.Parse.{digits_value}
use Rattle.vb_command.proofs.read.number.few_digits.Given as goal

-- the number of the digits so far
abbrev pub invariant-loop-byte : goal.invariant-loop-byte
invariant-loop-byte l = record {
  value : l.n ≡ digits_value 10 (take l.byte-index l.bytes);
  same : all_ascii_digits l.bytes ≡ all_ascii_digits (drop l.byte-index l.bytes);
  small : l.n < 10 ^ l.byte-index;
}
