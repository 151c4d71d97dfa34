use Rattle.std.proofs.Common.{◌<◌, refl, sym, ◌∙◌, length, arith, rules}
use Rattle.vb_command.proofs.SpaceLemmas.{no_space}
use Rattle.vb_command.proofs.WordLists.{line_words-last}
use Rattle.vb_command.proofs.read.words.next_between.Goals as goal

pub returns-else-is_empty : goal.returns-else-is_empty
returns-else-is_empty c =
    let l = c.loop-left in
    let none = no_space l.rest.now l.left l.invariant.2 c.loop-left-test.false in
    let some : 0 < length l.rest.now = search rules in (
      sym l.invariant.1 ∙ line_words-last l.rest.now none some,
      record { bits = refl; short = omega arith },
    )
