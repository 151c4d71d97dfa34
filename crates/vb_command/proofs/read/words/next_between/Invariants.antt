use Rattle.std.proofs.Common.{◌≡◌, length}
use denote.Text.{Utf8}
use denote.Shadow.{shadow}
use Rattle.vb_command.specs.Spaces.{AreSpaces}
use Rattle.vb_command.specs.Words.{line_words}
use Rattle.vb_command.proofs.read.words.next_between.Given as goal

-- the rest of the text has the remaining words, and its spaces are known
abbrev pub invariant-loop-left : goal.invariant-loop-left
invariant-loop-left l =
    shadow (Utf8 l.rest) × (line_words l.rest ≡ line_words l.text) × AreSpaces l.rest l.left

abbrev pub decreases-loop-left : goal.decreases-loop-left
decreases-loop-left l = length l.rest
