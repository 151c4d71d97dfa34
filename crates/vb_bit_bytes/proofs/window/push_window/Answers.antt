use Rattle.std.proofs.Common.{arith}
use Rattle.vb_bits.proofs.BitsLemmas.{length-bits}
use Rattle.vb_bit_bytes.proofs.WindowsLemmas.{Writes-pushed, Writes-pushed_bytes}
use Rattle.vb_bit_bytes.proofs.window.push_window.Goals as goal

pub returns-then-start-offset-clause-bits : goal.returns-then-start-offset-clause-bits
returns-then-start-offset-clause-bits g c =
    Writes-pushed _ _ _ _ _ _ c.in_ok-push_n.ensures.ok.list (omega arith) (omega (
      arith,
      length-bits c.args.source.now c.args.offset c.args.n,
    )) c.copy-then-start-offset.ensures.bits

pub returns-clause-bits : goal.returns-clause-bits
returns-clause-bits g c =
    Writes-pushed_bytes _ c.args.source.now
    _ _ c.args.start c.args.offset c.args.n _ _ _ c.in_ok-push_slice.ensures.ok.list
    (omega arith) (omega arith) (omega arith) (omega arith) (omega arith)
    (omega arith) c.copy-2.ensures.bits
