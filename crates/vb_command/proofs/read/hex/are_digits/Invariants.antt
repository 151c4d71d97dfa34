use Rattle.std.proofs.Common.{◌≡◌, take}
use Rattle.std.specs.List.{list_all}
use Rattle.vb_command.specs.Hex.{is_digit}
use Rattle.vb_command.proofs.read.hex.are_digits.Given as goal

-- whether all bytes so far are digits
abbrev pub invariant-loop-byte : goal.invariant-loop-byte
invariant-loop-byte l = l.all ≡ list_all is_digit (take l.byte-index l.bytes)
