-- The answers of a session to the lines of its input.
use Rattle.std.specs.Prelude.{◌≡◌, ℕ, ◌+◌, ◌-◌, ◌^◌, ◌<◌, ◌≤◌, ◌⊎◌, ◌==◌, List, [], ◌∷◌, ◌++◌}
use Rattle.std.specs.Prelude.{length, take, slice_get, count_by, Option, Some, None, Result, Ok}
use Rattle.std.specs.Prelude.{Err, IsTrue, IfSome, IsSomeAnd}
use Rattle.std.specs.List.{flat_map}
use Rattle.std.specs.Str.Lines.{lines}
use Rattle.std.specs.Io.KnownBytes.{Appends, Keeps}
use Rattle.vb_command.specs.Machine.{Slot, empty_slots, Order, Reply, Outcome, Run}
use Rattle.vb_command.specs.Printed.{line_of}
use Rattle.vb_command.specs.Reading.{asks_memory, reading, script}
use Rattle.vb_script.specs.declared.error.DriveError.{DriveError}
use Rattle.vb_script.specs.declared.error.DriveError.TheVariants.{Unreadable, Read, Write, Memory}

-- the answer to a line with this reading, and the effect of the line on the slots: those of its
-- command; without a command there is no answer and no slot changes
abbrev pub RepliesTo : Option (Option Order) → List Slot → Option Reply → List Slot → Type 0
RepliesTo None s r t = ⊥
RepliesTo (Some None) s r t = (r ≡ None) × (t ≡ s)
RepliesTo (Some (Some c)) s r t = IsSomeAnd r (λ answer. Outcome s c answer t)

-- the line of an answer, if there is one
abbrev pub line_of_any : Option Reply → List ℕ
line_of_any None = []
line_of_any (Some r) = line_of r

-- the error of a line that has no command; `number` is the number of the line
abbrev pub IsUnread : List ℕ → ℕ → DriveError → Type 0
IsUnread line number (Unreadable n) =
    (n ≡ number) × ((number ≡ 2 ^ 64 - 1) ⊎ (reading line ≡ None))
IsUnread line number Read = ⊥
IsUnread line number Write = ⊥
IsUnread line number Memory = IsTrue (asks_memory (reading line))

-- the line was answered: its command was run, and its answer, if it has one, was appended to the
-- bytes
pub record AnswersLine (line : List ℕ) (number : ℕ) (slots slots' : List Slot)
    (old new : Option (List ℕ)) : Type 0 where
  pub numbered : number < 2 ^ 64 - 1
  pub answer : Option Reply
  pub ran : RepliesTo (reading line) slots answer slots'
  pub added : Appends old new (line_of_any answer)

-- the same for a last line without a line feed; without bytes it is not a line
abbrev pub AnswersLast : List ℕ → ℕ → List Slot → List Slot → Option (List ℕ) → Option (List ℕ)
    → Type 0
AnswersLast [] number slots slots' old new = (slots' ≡ slots) × Keeps old new
AnswersLast (b ∷ bytes) number slots slots' old new =
    AnswersLine (b ∷ bytes) number slots slots' old new

-- the answers, one on each line
abbrev pub lines_of : List Reply → List ℕ
lines_of replies = flat_map line_of replies

-- commands were run, starting with sixteen empty slots, and their answers were written
pub record AnswersRun (old new : Option (List ℕ)) : Type 0 where
  pub commands : List Order
  pub replies : List Reply
  pub last : List Slot
  pub ran : Run empty_slots commands replies last
  pub written : Appends old new (lines_of replies)

-- the lines were answered: their commands were run, starting with sixteen empty slots, and the
-- answers were written
pub record AnswersLines (ls : List (List ℕ)) (old new : Option (List ℕ)) : Type 0 where
  pub commands : List Order
  pub read : script 1 ls ≡ Some commands
  pub replies : List Reply
  pub last : List Slot
  pub ran : Run empty_slots commands replies last
  pub written : Appends old new (lines_of replies)

-- the line of this number, within the bytes that were read, cannot be parsed, or its number is
-- 2 ^ 64 - 1; the lines before it were answered
pub record StopsAt (input rest : List ℕ) (line : ℕ) (old new : Option (List ℕ)) : Type 0 where
  pub bytes : List ℕ
  pub front : input ≡ bytes ++ rest
  pub within : line ≤ length (lines bytes)
  pub earlier : List (List ℕ)
  pub this : List ℕ
  pub later : List (List ℕ)
  pub whole : lines input ≡ earlier ++ this ∷ later
  pub number : length earlier + 1 ≡ line
  pub unread : (line ≡ 2 ^ 64 - 1) ⊎ (reading this ≡ None)
  pub answered : AnswersLines earlier old new

-- the number of lines that end within the bytes: one for each line feed
abbrev pub count_ended : List ℕ → ℕ
count_ended bytes = count_by (λ b. b == 10) bytes

-- the lines that end within the bytes
abbrev pub ended_lines : List ℕ → List (List ℕ)
ended_lines bytes = take (count_ended bytes) (lines bytes)

-- the session read the input up to `rest`, and answered all lines that end in the bytes that it
-- read
abbrev pub AnswersEnded : List ℕ → List ℕ → Option (List ℕ) → Option (List ℕ) → Type 0
AnswersEnded input rest old new =
    (bytes : List ℕ) × (input ≡ bytes ++ rest) × AnswersLines (ended_lines bytes) old new

-- the session read the input up to `rest`, and answered the first `number` of the lines that end in
-- the bytes that it read. If the next line ends there too, parsing its command allocates
pub record AnswersSome (input rest : List ℕ) (old new : Option (List ℕ)) : Type 0 where
  pub bytes : List ℕ
  pub front : input ≡ bytes ++ rest
  pub number : ℕ
  pub ended : number ≤ count_ended bytes
  pub answered : AnswersLines (take number (lines input)) old new
  pub next : number < count_ended bytes
      → IsSomeAnd (slice_get (lines input) number) (λ line. IsTrue (asks_memory (reading line)))

-- the input that a session read and the answers that it wrote, by its result; `rest` is the input
-- that remains
abbrev pub SessionEnds : {X : Type 0} → Result X DriveError → List ℕ → List ℕ
    → Option (List ℕ) → Option (List ℕ) → Type 0
SessionEnds (Ok x) input rest old new = AnswersLines (lines input) old new × (rest ≡ [])
SessionEnds (Err (Unreadable line)) input rest old new = StopsAt input rest line old new
SessionEnds (Err Read) input rest old new = AnswersEnded input rest old new
SessionEnds (Err Write) input rest old new = Unit {0}
SessionEnds (Err Memory) input rest old new = AnswersSome input rest old new

-- the same for an input that reports its bytes
abbrev pub EndsIfKnown : {X : Type 0} → Result X DriveError → Option (List ℕ) → Option (List ℕ)
    → Option (List ℕ) → Option (List ℕ) → Type 0
EndsIfKnown r remaining remaining' old new = IfSome remaining (λ input.
    IsSomeAnd remaining' (λ rest. SessionEnds r input rest old new))
