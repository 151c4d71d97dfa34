use Rattle.std.proofs.Common.{false}
use Rattle.vb_walk.proofs.WalkLemmas.{refilled_by_word, skipped}
use Rattle.vb_walk.proofs.cursor.Cursor.skip_zeros.Goals as goal

pub returns-in-Some : goal.returns-in-Some
returns-in-Some c =
    let b = c.args.bytes.now in let s = c.args.self in let d = c.at_word.result in
    skipped b s d c.requires c.if-self-ne0.false (refilled_by_word
    b s false c.in-Some.other d c.requires c.in-Some.ensures c.at_word.ensures)
