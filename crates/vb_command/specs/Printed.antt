-- The text of answers.
use Rattle.std.specs.Prelude.{ℕ, Bool, true, false, List, [], ◌∷◌, ◌++◌, codes, decimal, Some, None}
use Rattle.std.specs.List.{flat_map}
use Rattle.vb_command.specs.Machine.{Reply, Done, Number, Truth, Place, Listed, ListedPlaces}
use Rattle.vb_command.specs.Machine.{ListedRuns, Text, Refused}
use Rattle.vb_command.specs.declared.refusal.Refusal.{Refusal}
use Rattle.vb_command.specs.declared.refusal.Refusal.TheVariants.{BadSlot, BadWindow}
use Rattle.vb_command.specs.declared.refusal.Refusal.TheVariants.{OutOfRange, LengthMismatch}
use Rattle.vb_command.specs.declared.refusal.Refusal.TheVariants.{TakeOutOfRange, TooManyBits}
use Rattle.vb_command.specs.declared.refusal.Refusal.TheVariants.{OutOfMemory}

-- the name of a refusal, and its position if it has one
abbrev pub name_of : Refusal → List ℕ
name_of BadSlot = codes "BadSlot"
name_of BadWindow = codes "BadWindow"
name_of OutOfRange = codes "OutOfRange"
name_of LengthMismatch = codes "LengthMismatch"
name_of (TakeOutOfRange position) = codes "TakeOutOfRange " ++ decimal position
name_of TooManyBits = codes "TooManyBits"
name_of OutOfMemory = codes "OutOfMemory"

-- the text of a refusal
abbrev pub refusal_text : Refusal → List ℕ
refusal_text why = codes "refused " ++ name_of why

-- a truth value as a binary digit
abbrev pub digit_of : Bool → List ℕ
digit_of true = codes "1"
digit_of false = codes "0"

-- truth values as binary digits, or `-` if there are none
abbrev pub digits_of : List Bool → List ℕ
digits_of [] = codes "-"
digits_of (b ∷ bs) = flat_map digit_of (b ∷ bs)

-- the texts of items with commas between them, or `-` if there are none
abbrev pub with_commas : {X : Type 0} → (X → List ℕ) → List X → List ℕ
with_commas text [] = codes "-"
with_commas text (x ∷ xs) = text x ++ flat_map (λ y. codes "," ++ text y) xs

-- indices in decimal, with commas between them
abbrev pub places_text : List ℕ → List ℕ
places_text places = with_commas decimal places

-- a run: the index of its first bit, and the index after its last bit
abbrev pub run_text : ℕ × ℕ → List ℕ
run_text run = decimal run.0 ++ codes "-" ++ decimal run.1

-- runs, with commas between them
abbrev pub runs_text : List (ℕ × ℕ) → List ℕ
runs_text runs = with_commas run_text runs

-- the text of an answer
abbrev pub text_of : Reply → List ℕ
text_of Done = codes "ok"
text_of (Number n) = decimal n
text_of (Truth b) = digit_of b
text_of (Place None) = codes "none"
text_of (Place (Some p)) = decimal p
text_of (Listed bs) = digits_of bs
text_of (ListedPlaces ps) = places_text ps
text_of (ListedRuns rs) = runs_text rs
text_of (Text text) = text
text_of (Refused why) = refusal_text why

-- the line of an answer
abbrev pub line_of : Reply → List ℕ
line_of r = text_of r ++ 10 ∷ []
