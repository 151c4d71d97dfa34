use Rattle.std.proofs.Common.{◌+◌, ◌*◌, ◌%◌, ◌^◌, ap, ◌∙◌, arith}
use Rattle.std.specs.Int.Bits.{bit_or}
use Rattle.vb_bits.specs.Digits.{digits}
use Rattle.vb_bits.proofs.PackedLemmas.{digits_packed}
use Rattle.vb_set.proofs.bit_appender.BitAppender.push.Goals as goal

pub returns-clause-pending : goal.returns-clause-pending
returns-clause-pending g c =
    let a = c.args.self.now in
    ap (λ x. digits (bit_or a.word (x * 2 ^ a.count % 2 ^ 64)) 0 (a.count + 1)) c.from.ensures
    ∙ digits_packed a.word a.count c.args.v (omega arith) a.clear
