-- Written by tools/write-lists from tools/families/bytes.txt.
use Rattle.std.proofs.Common.{◌+◌, ◌-◌, length, take, drop, ap, arith}
use Rattle.std.proofs.lemmas.List.{length-take, length-drop}
use Rattle.vb_bits.proofs.WritesLemmas.{Writes_number}
use Rattle.vb_bits.proofs.bytes.write_two.Goals as goal

pub returns : goal.returns
returns c =
    let b = c.args.bytes.now in let at = c.args.at in let bytes = c.to_le_bytes in
    Writes_number b (take (at + 2 - at) (drop at b)) bytes.result at 2 c.args.word (at + 2 - at)
    bytes.ensures (ap length bytes.ensures) (simp (length-take, length-drop) (omega arith))
    (omega arith) (omega arith)
