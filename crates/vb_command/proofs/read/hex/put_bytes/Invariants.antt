use Rattle.std.proofs.Common.{◌≡◌, ◌*◌, take, drop}
use Rattle.vb_command.specs.Hex.{hex_pairs}
use Rattle.vb_command.proofs.Behind.{behind}
use Rattle.vb_command.proofs.read.hex.put_bytes.Given as goal

-- the bytes are those written so far, followed by those of the rest of the digits
abbrev pub invariant-loop-i : goal.invariant-loop-i
invariant-loop-i l =
    hex_pairs l.digits ≡ behind (take l.i l.bytes) (hex_pairs (drop (2 * l.i) l.digits))
