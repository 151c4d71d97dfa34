use Rattle.vb_filter.proofs.FourLanes.{field_at}
use Rattle.vb_filter.proofs.fields.fours.Goals as goal

pub returns-clause-each : goal.returns-clause-each
returns-clause-each c =
    let bytes = c.bytes_of-bytes in
    field_at c.args.word bytes.result bytes.ensures.len bytes.ensures.each
