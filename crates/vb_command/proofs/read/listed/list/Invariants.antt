use Rattle.std.proofs.Common.{◌≡◌, length, true}
use Rattle.std.specs.Prelude.{is_some}
use Rattle.vb_command.specs.Listed.{items_of, all_written}
use Rattle.vb_command.proofs.Behind.{behind}
use Rattle.vb_command.proofs.read.listed.list.Given as goal

-- the items are those read so far and those of the remaining parts
abbrev pub invariant-loop-text : goal.invariant-loop-text
invariant-loop-text g l = record {
  same : items_of g.T.Field.written l.word
      ≡ behind l.items.items (all_written g.T.Field.written l.texts);
  there : is_some (items_of g.T.Field.written l.word) ≡ true;
}

abbrev pub decreases-loop-text : goal.decreases-loop-text
decreases-loop-text g l = length l.texts
