use Rattle.std.proofs.Common.{arith}
use Rattle.vb_filter.proofs.FourLanes.{byte_at}
use Rattle.vb_filter.proofs.fields.bytes_of.Goals as goal

pub returns-clause-each : goal.returns-clause-each
returns-clause-each c i h = byte_at c.args.word i (omega arith) h
