use Rattle.std.proofs.Common.{◌-◌, refl, arith}
use Rattle.std.proofs.lemmas.List.{length-replicate}
use Rattle.vb_bits.proofs.WritesLemmas.{Writes_none, Writes-run}
use Rattle.vb_bits.proofs.fill.fill_bits.Goals as goal

pub returns-then-start-end : goal.returns-then-start-end
returns-then-start-end c =
    Writes_none _ _ _ (omega (arith, length-replicate (c.args.end - c.args.start) c.args.v))

pub returns : goal.returns
returns c =
    Writes-run _ _ _ _ _ _ _ _ _ (Writes-run _ _ _ _ _ _ _ _
    _ c.fill_in_byte-2.ensures c.fill_bytes.ensures (omega arith) refl) c.fill_in_byte-3.ensures
    (omega arith) (omega arith)
