-- Answers of the code, as answers of the machine.
use Rattle.std.specs.Prelude.{string_bytes}
use Rattle.vb_command.specs.Machine.{Reply, Done, Number, Truth, Place, Listed, ListedPlaces}
use Rattle.vb_command.specs.Machine.{ListedRuns, Text, Refused}
use Rattle.vb_command.specs.declared.answer.Answer.{Answer}
use Rattle.vb_command.specs.declared.answer.Answer.TheVariants as answers

-- the answer of the machine for an answer of the code
abbrev pub reply : {A : Type 0} → Answer A → Reply
reply answers.Done = Done
reply (answers.Number n) = Number n
reply (answers.Truth b) = Truth b
reply (answers.Place p) = Place p
reply (answers.Bits bits) = Listed bits.items
reply (answers.Places places) = ListedPlaces places.items
reply (answers.Runs runs) = ListedRuns runs.items
reply (answers.Text text) = Text (string_bytes text)
reply (answers.Refused why) = Refused why
