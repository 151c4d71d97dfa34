use Rattle.std.proofs.Common.{length, ap, ◌∙◌}
use Rattle.vb_mem.proofs.Made.{Makes-map, Shows-held}
use Rattle.vb_mem.proofs.buffer.Buffer.from_iter.Goals as goal

pub returns-clause-made : goal.returns-clause-made
returns-clause-made g c =
    let least = g.T.Element.align_exponent in
    let gave = c.in_ok-from_iter.ensures.made.ok in
    Makes-map _ _ c.freeze.result
    (λ b shows.
    let shown = Shows-held gave.1 least _ c.in_ok-from_iter.field-0 b gave.4 shows in
    (gave.0, gave.1, gave.2, gave.3, shown))
    c.freeze.ensures

pub returns-clause-len : goal.returns-clause-len
returns-clause-len g c =
    let ran = c.in_ok-from_iter.ensures.len in
    let run = ran.2 in
    (Makes-map _ _ c.freeze.result
    (λ b shows. (ran.0, ran.1, (run.0, run.1, run.2, ap length shows.list ∙ run.3), ran.3))
    c.freeze.ensures).ok
