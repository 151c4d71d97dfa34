use Rattle.vb_walk.proofs.WalkLemmas.{refilled_by_word, refilled_by_rest}
use Rattle.vb_walk.proofs.cursor.Cursor.refill.Goals as goal

pub returns-in-Some : goal.returns-in-Some
returns-in-Some c = refilled_by_word c.args.bytes.now c.args.self c.args.value
    c.in-Some.other c.at_word.result c.requires.valid c.in-Some.ensures c.at_word.ensures

pub returns-in-None : goal.returns-in-None
returns-in-None c = refilled_by_rest c.args.bytes.now c.args.self c.args.value
    c.at_rest.result c.requires.valid c.requires.more c.in-None.ensures c.at_rest.ensures
