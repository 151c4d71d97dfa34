use Rattle.std.proofs.Common.{take}
use Rattle.std.specs.Fmt.{HasWritten, IsPlainFormatter}
use Rattle.std.specs.List.{flat_map}
use Rattle.vb_command.specs.Printed.{digit_of}
use Rattle.vb_command.proofs.print.formatter.FmtFormatterPrinterUnit.put_digits.Given as goal

-- the digits so far were put
abbrev pub invariant-loop-bit : goal.invariant-loop-bit
invariant-loop-bit g l =
    IsPlainFormatter l.initial.self
    → HasWritten g.W.Write.write_str_gives l.initial.self
    (flat_map digit_of (take l.bit-index l.bits)) l.self
