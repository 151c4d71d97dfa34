use Rattle.std.proofs.Common.{refl, length, ap, arith}
use Rattle.vb_set.proofs.AppenderLemmas.{HasAdded-none}
use Rattle.vb_set.proofs.bit_appender.BitAppender.new.Goals as goal

pub returns-clause-none : goal.returns-clause-none
returns-clause-none g c =
    let window = c.as_slice-bytes.ensures.window in
    let bytes = ap length c.as_slice-bytes.ensures.bytes in
    HasAdded-none _ refl refl (omega (arith, window.inside, bytes))
    (omega (arith, c.capacity-room.ensures.room, c.capacity-room.ensures.holds_bits)) window.fits
