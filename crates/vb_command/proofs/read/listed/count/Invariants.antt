use Rattle.std.proofs.Common.{◌≡◌, ◌+◌, ◌≤◌, length}
use Rattle.std.specs.Option.{option_map}
use Rattle.vb_command.specs.Listed.{items_of}
use Rattle.vb_command.proofs.ListedLemmas.{counted}
use Rattle.vb_command.proofs.read.listed.count.Given as goal

-- the items are those counted so far and those of the remaining parts
abbrev pub invariant-loop-text : goal.invariant-loop-text
invariant-loop-text g l = record {
  same : option_map length (items_of g.T.Field.written l.word)
      ≡ counted g.T.Field.written l.count l.texts;
  small : l.count + length l.texts ≤ length l.word + 1;
}

abbrev pub decreases-loop-text : goal.decreases-loop-text
decreases-loop-text g l = length l.texts
