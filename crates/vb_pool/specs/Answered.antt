-- The result of a command's method.
use Rattle.std.specs.Prelude.{◌≡◌, Option, Some, None, Result, Ok, Err}
use Rattle.vb_command.specs.Machine.{Order, Len, Count, Select, Selectunset}
use Rattle.vb_command.specs.Machine.{Last, Bits, Places, Runs, Show, Eq, Reply, Refused}
use Rattle.vb_command.specs.Views.{reply}
use Rattle.vb_command.specs.declared.answer.Answer.{Answer}
use Rattle.vb_command.specs.declared.refusal.Refusal.{Refusal}
use Rattle.vb_command.specs.declared.refusal.Refusal.TheVariants.{BadSlot}
use Rattle.vb_set.specs.declared.BufferError.{BufferError}
use Rattle.vb_set.specs.declared.BufferError.TheVariants.{OutOfMemory, TakeOutOfRange}
use Rattle.vb_set.specs.declared.BufferError.TheVariants.{TooManyBits}

-- the reply of an answer, or of a refusal
abbrev pub reply_of : {A : Type 0} → Result (Answer A) Refusal → Reply
reply_of (Ok answer) = reply answer
reply_of (Err why) = Refused why

-- an order that returns a list or a text of the bits of a set, or compares two sets
abbrev pub AsksWhole : Order → Type 0
AsksWhole (Bits k) = Unit {0}
AsksWhole (Places k) = Unit {0}
AsksWhole (Runs k) = Unit {0}
AsksWhole (Show k) = Unit {0}
AsksWhole (Eq k j) = Unit {0}
AsksWhole order = ⊥

-- an order that returns the number of a set's bits or of its true ones, or an index, returns a list
-- or a text, or compares two sets
abbrev pub IsQuestion : Order → Type 0
IsQuestion (Len k) = Unit {0}
IsQuestion (Count k) = Unit {0}
IsQuestion (Select k n) = Unit {0}
IsQuestion (Selectunset k n) = Unit {0}
IsQuestion (Last k) = Unit {0}
IsQuestion order = AsksWhole order

-- the result is the content of a slot, under a view; `BadSlot` if the slot does not hold what is
-- needed
abbrev pub GivesHeld : {X Y : Type 0} → (X → Y) → Option Y → Result X Refusal → Type 0
GivesHeld view held (Ok x) = held ≡ Some (view x)
GivesHeld view held (Err why) = (why ≡ BadSlot) × (held ≡ None)

-- an error of a call that makes or changes a set
abbrev pub IsOfSet : BufferError → Type 0
IsOfSet OutOfMemory = Unit {0}
IsOfSet (TakeOutOfRange position) = Unit {0}
IsOfSet TooManyBits = Unit {0}
IsOfSet error = ⊥
