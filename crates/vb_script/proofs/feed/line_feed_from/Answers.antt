use Rattle.std.proofs.Common.{◌∙◌, ◌+◌, eqb, ap}
use Rattle.std.specs.Prelude.{option_map, position}
use Rattle.vb_script.proofs.Searches.{position-drop}
use Rattle.vb_script.proofs.feed.line_feed_from.Goals as goal

pub returns-in-Some : goal.returns-in-Some
returns-in-Some c =
    let e = position-drop (λ b. eqb b 10) c.args.bytes.now c.args.searched c.requires in
    rw e (ap (option_map (λ k. c.args.searched + k)) (c.in-Some.ensures
    ∙ ap (position (λ b. eqb b 10)) c.split_at.ensures.back))

pub returns-in-None : goal.returns-in-None
returns-in-None c =
    let e = position-drop (λ b. eqb b 10) c.args.bytes.now c.args.searched c.requires in
    rw e (ap (option_map (λ k. c.args.searched + k)) (c.in-None.ensures
    ∙ ap (position (λ b. eqb b 10)) c.split_at.ensures.back))
