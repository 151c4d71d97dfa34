use Rattle.std.proofs.Common.{◌%◌, arith}
use Rattle.vb_bits.proofs.DigitsLemmas.{length-digits}
use Rattle.vb_filter.proofs.PendingLemmas.{Writes_in_front}
use Rattle.vb_filter.proofs.pending.write_pending.Goals as goal

pub returns : goal.returns
returns c =
    let n = c.args.len % 64 in let e = c.div_ceil.result in
    Writes_in_front c.args.out.now c.write_digits.new.dst _ e _
    (omega (arith, c.requires.room, c.div_ceil.ensures))
    (omega (arith, c.div_ceil.ensures, length-digits c.args.pending 0 n))
    c.write_digits.ensures
