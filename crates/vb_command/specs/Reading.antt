-- The orders of the lines of an input.
use Rattle.std.specs.Prelude.{◌≡◌, ℕ, ◌+◌, ◌-◌, ◌^◌, Bool, true, false, IsTrue, is_some, List, []}
use Rattle.std.specs.Prelude.{◌∷◌, Option, Some, None, Result, Ok, Err, nat_lt, ◌==◌, slice_index}
use Rattle.std.specs.Prelude.{if◌then◌else◌}
use Rattle.std.specs.List.{list_all}
use Rattle.vb_command.specs.Machine.{Order, Import, Indices, Take}
use Rattle.vb_command.specs.Optional.{◌>>=◌}
use Rattle.vb_command.specs.Words.{line_words}
use Rattle.vb_command.specs.Arguments.{arguments_of}
use Rattle.vb_command.specs.declared.unread.Unread.{Unread}
use Rattle.vb_command.specs.declared.unread.Unread.TheVariants as unread

-- a function returns the value of the definition `read`, or `Unreadable` if it has none. It returns
-- `Memory` only if the definition has a value
abbrev pub Gives : {X Y : Type 0} → (X → Y) → Result X Unread → Option Y → Type 0
Gives view (Ok x) read = read ≡ Some (view x)
Gives view (Err unread.Memory) read = IsTrue (is_some read)
Gives view (Err unread.Unreadable) read = read ≡ None

-- a function that does not allocate returns what the definition `read` says
abbrev pub Tells : {X Y : Type 0} → (X → Y) → Result X Unread → Option Y → Type 0
Tells view (Ok x) read = read ≡ Some (view x)
Tells view (Err unread.Memory) read = ⊥
Tells view (Err unread.Unreadable) read = read ≡ None

-- whether each byte is ASCII
abbrev pub all_ascii : List ℕ → Bool
all_ascii bs = list_all (λ b. nat_lt b 128) bs

-- whether a line whose first word is w is a comment: it begins with `#` (code 35)
abbrev pub is_comment : List ℕ → Bool
is_comment w = slice_index w 0 == 35

-- the order of the words of a line, or none if there are no words or the line is a comment
unfoldable pub request_of : List (List ℕ) → Option (Option Order)
request_of [] = Some None
request_of (w ∷ ws) = if is_comment w then Some None else (do
  c ← arguments_of w ws
  Some (Some c))

-- whether an order holds a list, which needs memory
abbrev pub holds_list : Order → Bool
holds_list (Import t o n bytes) = true
holds_list (Indices t n numbers) = true
holds_list (Take k t m indices) = true
holds_list c = false

-- whether the order of a line holds a list
abbrev pub asks_memory : Option (Option Order) → Bool
asks_memory None = false
asks_memory (Some None) = false
asks_memory (Some (Some c)) = holds_list c

-- the reading of a line, if it can be read: an order, or none
abbrev pub reading : List ℕ → Option (Option Order)
reading line = if all_ascii line then request_of (line_words line) else None

-- an order, if there is one, before others
abbrev pub with_order : Option Order → List Order → List Order
with_order None cs = cs
with_order (Some c) cs = c ∷ cs

-- the orders of lines that are numbered from n on, if each can be read; a line with number 2 ^ 64 -
-- 1 cannot
abbrev pub script : ℕ → List (List ℕ) → Option (List Order)
script n [] = Some []
script n (l ∷ ls) = if nat_lt n (2 ^ 64 - 1) then (do
  c ← reading l
  cs ← script (n + 1) ls
  Some (with_order c cs)) else None
