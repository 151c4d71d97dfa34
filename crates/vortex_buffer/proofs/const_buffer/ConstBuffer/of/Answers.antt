-- The buffer has the alignment that it reports, and so it has the lesser one.
use Rattle.std.proofs.Common.{arith}
use Rattle.vortex_buffer.proofs.Exponents.{lesser}
use Rattle.vortex_buffer.proofs.const_buffer.ConstBuffer.of.Goals as goal

pub invariant_of-result : goal.invariant_of-result
invariant_of-result g c = λ e h.
    let le = c.requires e h in (
      le,
      lesser c.args.buffer c.alignment.result e
          (omega (arith, le, c.alignment.ensures.value)) c.alignment.ensures.aligned,
    )
