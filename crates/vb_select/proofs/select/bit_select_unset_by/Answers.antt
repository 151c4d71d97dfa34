use Rattle.std.specs.ControlFlow.{break_value}
use Rattle.vb_bits.specs.Bits.{bits, complement}
use Rattle.vb_bits.proofs.BitsLemmas.{Selects-InvertsCount}
use Rattle.vb_select.proofs.SearchesLemmas.{Searched-Selects}
use Rattle.vb_select.proofs.select.bit_select_unset_by.Goals as goal

pub returns-clause-each : goal.returns-clause-each
returns-clause-each g c =
    let l = complement (bits (g.G.Glance.seen c.args.src.now).bytes c.args.offset c.args.len) in
    rw c.break_value.ensures.value (Selects-InvertsCount l c.args.n (break_value c.find.result)
    (Searched-Selects l c.args.n c.find.result c.find.ensures.found))
