use Rattle.std.proofs.Common.{◌≡◌, length}
use denote.Text.{Utf8}
use denote.Shadow.{shadow}
use Rattle.vb_command.specs.Words.{line_words}
use Rattle.vb_command.proofs.read.words.next_word.Given as goal

-- the rest of the text has the remaining words
abbrev pub invariant-loop-word : goal.invariant-loop-word
invariant-loop-word l = shadow (Utf8 l.rest) × (line_words l.rest ≡ line_words l.text)

abbrev pub decreases-loop-word : goal.decreases-loop-word
decreases-loop-word l = length l.rest
