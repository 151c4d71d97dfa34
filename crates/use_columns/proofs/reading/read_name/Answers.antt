-- The name and the rest are the file.
use Rattle.std.proofs.Common.{◌≡◌, ◌+◌, ◌≤◌, length, slice_index, slice_range, ap, ◌∙◌, rules}
use Rattle.std.proofs.Common.{arith}
use Rattle.std.proofs.lemmas.Grind.{common_steps}
use Rattle.use_columns.proofs.Records.{record_front}
use Rattle.use_columns.proofs.reading.read_name.Goals as goal

pub returns-clause-ok : goal.returns-clause-ok
returns-clause-ok g c =
    let file = g.B.AlignedBuf.unread c.args.file.now in
    let n = c.from-end.result in
    let length_is : n ≡ slice_index file 0 = grind (arith, common_steps) in
    let fits : 1 + n ≤ length file = search rules in
    let name : c.in_ok-name.name.list ≡ slice_range file 1 (1 + n) =
    c.in_ok-name.ensures.ok.0.list ∙ ap (λ l. slice_range l 1 (1 + n)) c.chunk-bytes.ensures in
    rw (name, c.advance.ensures.rest) (record_front file n length_is fits)
