-- The machine: slots that hold lists of truth values, and the answer and the effect of each order.
use Rattle.std.specs.Prelude.{◌≡◌, ℕ, ℤ, ◌+◌, ◌-◌, ◌*◌, ◌^◌, ◌<◌, Bool, true, false, ◌&&◌, ◌==◌}
use Rattle.std.specs.Prelude.{List, [], ◌∷◌, ◌++◌, length, take, replicate, slice_get, slice_set}
use Rattle.std.specs.Prelude.{slice_range, Option, Some, None, MatchOption, MatchBool, IsTrue}
use Rattle.std.specs.Prelude.{◌⊎◌, ◌↔◌, nat_lt, nat_le}
use Rattle.std.specs.List.{list_all}
use Rattle.std.specs.Option.{option_and_then, option_map, option_map_or}
use Rattle.vb_bits.specs.Bits.{bits, at, count, complement, places, Selects}
use Rattle.vb_bits.specs.Edits.{with_fill}
use Rattle.vb_bits.specs.Operators.{combined_by}
use Rattle.vb_bits.specs.Runs.{runs, last_place}
use Rattle.vb_bits.specs.Shown.{bits_text}
use Rattle.vb_bits.specs.declared.zip.BitOp.{BitOp}
use Rattle.vb_bits.specs.declared.zip.BitOp.TheVariants.{And, Or, Xor, AndNot}
use Rattle.vb_command.specs.declared.refusal.Refusal.{Refusal}
use Rattle.vb_command.specs.declared.refusal.Refusal.TheVariants.{BadSlot, BadWindow}
use Rattle.vb_command.specs.declared.refusal.Refusal.TheVariants.{OutOfRange, LengthMismatch}
use Rattle.vb_command.specs.declared.refusal.Refusal.TheVariants.{TakeOutOfRange, TooManyBits}
use Rattle.vb_command.specs.declared.refusal.Refusal.TheVariants.{OutOfMemory}
use Rattle.vb_command.specs.declared.command.Command.{Command}
use Rattle.vb_command.specs.declared.command.Command.TheVariants as commands
use Rattle.vb_command.specs.declared.mode.Mode.{Mode}
use Rattle.vb_command.specs.declared.mode.Mode.TheVariants.{Ref, Own}
use Rattle.vb_bits.specs.Marks.{with_true}
use Rattle.vb_take.specs.Takes.{IsTaken, IsFirstPast}

-- the content of a slot
pub data Slot : Type 0 where
  Empty : Slot
  Open : List Bool → Slot
  Frozen : List Bool → Slot

-- sixteen empty slots
unfoldable pub empty_slots : List Slot
empty_slots = replicate 16 Empty

-- an order to the machine, with the fields of its line in their order; `Combine` is all four
-- operators on two lists
pub data Order : Type 0 where
  Import : ℕ → ℕ → ℕ → List ℕ → Order
  Full : ℕ → Bool → ℕ → Order
  Indices : ℕ → ℕ → List ℕ → Order
  Set : ℕ → ℕ → Bool → Order
  Append : ℕ → Bool → Order
  Appendn : ℕ → Bool → ℕ → Order
  Appendset : ℕ → ℕ → Order
  Fill : ℕ → ℕ → ℕ → Bool → Order
  Truncate : ℕ → ℕ → Order
  Clear : ℕ → Order
  Flip : ℕ → Order
  Freeze : ℕ → Order
  Thaw : ℕ → Order
  Clone : ℕ → ℕ → Order
  Slice : ℕ → ℕ → ℕ → ℕ → Order
  Sliced : ℕ → ℕ → Order
  Drop : ℕ → Order
  Combine : BitOp → Mode → ℕ → ℕ → ℕ → Order
  Not : Mode → ℕ → ℕ → Order
  Take : ℕ → ℕ → Option ℕ → List ℤ → Order
  Len : ℕ → Order
  Count : ℕ → Order
  Get : ℕ → ℕ → Order
  Countrange : ℕ → ℕ → ℕ → Order
  Select : ℕ → ℕ → Order
  Selectunset : ℕ → ℕ → Order
  Last : ℕ → Order
  Bits : ℕ → Order
  Places : ℕ → Order
  Runs : ℕ → Order
  Show : ℕ → Order
  Eq : ℕ → ℕ → Order

-- the order of a command
abbrev pub order_of : {A : Type 0} → Command A → Order
order_of (commands.Import t o n bytes) = Import t o n bytes.items
order_of (commands.Full t v n) = Full t v n
order_of (commands.Indices t n numbers) = Indices t n numbers.items
order_of (commands.Set k i v) = Set k i v
order_of (commands.Append k v) = Append k v
order_of (commands.Appendn k v n) = Appendn k v n
order_of (commands.Appendset k j) = Appendset k j
order_of (commands.Fill k a b v) = Fill k a b v
order_of (commands.Truncate k n) = Truncate k n
order_of (commands.Clear k) = Clear k
order_of (commands.Flip k) = Flip k
order_of (commands.Freeze k) = Freeze k
order_of (commands.Thaw k) = Thaw k
order_of (commands.Clone k t) = Clone k t
order_of (commands.Slice k a b t) = Slice k a b t
order_of (commands.Sliced k t) = Sliced k t
order_of (commands.Drop k) = Drop k
order_of (commands.And mode l r t) = Combine And mode l r t
order_of (commands.Or mode l r t) = Combine Or mode l r t
order_of (commands.Xor mode l r t) = Combine Xor mode l r t
order_of (commands.Andnot mode l r t) = Combine AndNot mode l r t
order_of (commands.Not mode l t) = Not mode l t
order_of (commands.Take k t m indices) = Take k t m indices.items
order_of (commands.Len k) = Len k
order_of (commands.Count k) = Count k
order_of (commands.Get k i) = Get k i
order_of (commands.Countrange k a b) = Countrange k a b
order_of (commands.Select k n) = Select k n
order_of (commands.Selectunset k n) = Selectunset k n
order_of (commands.Last k) = Last k
order_of (commands.Bits k) = Bits k
order_of (commands.Places k) = Places k
order_of (commands.Runs k) = Runs k
order_of (commands.Show k) = Show k
order_of (commands.Eq k j) = Eq k j

-- the answer to an order
pub data Reply : Type 0 where
  Done : Reply
  Number : ℕ → Reply
  Truth : Bool → Reply
  Place : Option ℕ → Reply
  Listed : List Bool → Reply
  ListedPlaces : List ℕ → Reply
  ListedRuns : List (ℕ × ℕ) → Reply
  Text : List ℕ → Reply
  Refused : Refusal → Reply

-- the list that a slot holds, open or frozen
abbrev pub list_of : Slot → Option (List Bool)
list_of Empty = None
list_of (Open l) = Some l
list_of (Frozen l) = Some l

-- the list at k, if slot k exists and holds one
abbrev pub list_at : List Slot → ℕ → Option (List Bool)
list_at s k = option_and_then list_of (slice_get s k)

-- the list of an open slot
abbrev pub open_list : Slot → Option (List Bool)
open_list Empty = None
open_list (Open l) = Some l
open_list (Frozen l) = None

-- the open list at k, if slot k exists and holds one
abbrev pub open_at : List Slot → ℕ → Option (List Bool)
open_at s k = option_and_then open_list (slice_get s k)

-- the list of a frozen slot
abbrev pub frozen_list : Slot → Option (List Bool)
frozen_list Empty = None
frozen_list (Open l) = None
frozen_list (Frozen l) = Some l

-- the frozen list at k, if slot k exists and holds one
abbrev pub frozen_at : List Slot → ℕ → Option (List Bool)
frozen_at s k = option_and_then frozen_list (slice_get s k)

-- a slot, if it holds a list
abbrev pub kept_slot : Slot → Option Slot
kept_slot Empty = None
kept_slot (Open l) = Some (Open l)
kept_slot (Frozen l) = Some (Frozen l)

-- the content of slot k, if it exists and holds a list
abbrev pub kept_at : List Slot → ℕ → Option Slot
kept_at s k = option_and_then kept_slot (slice_get s k)

-- whether a slot is empty
abbrev pub is_vacant : Slot → Bool
is_vacant Empty = true
is_vacant (Open l) = false
is_vacant (Frozen l) = false

-- whether slot k exists and is empty
abbrev pub vacant_at : List Slot → ℕ → Bool
vacant_at s k = option_map_or is_vacant (slice_get s k) false

-- the validity at m: none if m is none; otherwise the frozen list in slot m, if there is one
abbrev pub validity_at : List Slot → Option ℕ → Option (Option (List Bool))
validity_at s None = Some None
validity_at s (Some m) = option_map Some (frozen_at s m)

-- whether a validity, if there is one, has length n
abbrev pub is_as_long : ℕ → Option (List Bool) → Bool
is_as_long n None = true
is_as_long n (Some validity) = length validity == n

-- whether each number is below n
abbrev pub all_below : ℕ → List ℕ → Bool
all_below n numbers = list_all (λ i. nat_lt i n) numbers

-- whether a window of n bits from bit o on begins in the first byte, is in bounds of the bytes, and
-- has an end that fits in 64 bits
abbrev pub fits : ℕ → ℕ → List ℕ → Bool
fits o n bytes =
    nat_lt o 8 && nat_le (o + n) (8 * length bytes) && nat_lt (o + n) (2 ^ 64)

-- whether the indices a..b are a range of the list
abbrev pub is_range : ℕ → ℕ → List Bool → Bool
is_range a b l = nat_le a b && nat_le b (length l)

-- the slots after an operator took its left list from slot l: with `own` that slot is empty
abbrev pub after_release : Mode → ℕ → List Slot → List Slot
after_release Ref l s = s
after_release Own l s = slice_set s l Empty

-- a relation between the slots before an order, its answer, and the slots after it
abbrev pub Effect : Type 1
Effect = List Slot → Reply → List Slot → Type 0

-- the order is refused, and every slot keeps its content
abbrev pub Refuses : Refusal → Effect
Refuses why s r t = (r ≡ Refused why) × (t ≡ s)

-- the order is done: slot k has this content, and all other slots keep theirs
abbrev pub Puts : ℕ → Slot → Effect
Puts k new s r t = (r ≡ Done) × (t ≡ slice_set s k new)

-- an operator takes its left list from slot l, and then `Then` holds
abbrev pub Releases : Mode → ℕ → Effect → Effect
Releases mode l Then s r t = Then (after_release mode l s) r t

-- if a check fails, the order is refused for this reason; otherwise `Then` holds
abbrev pub Checks : Bool → Refusal → Effect → Effect
Checks passed why Then s r t = MatchBool passed (Then s r t) (Refuses why s r t)

-- if a slot does not hold what the order needs, the order is refused; otherwise `Then` holds of its
-- content
abbrev pub Needs : {X : Type 0} → Option X → (X → Effect) → Effect
Needs held Then s r t = MatchOption held (Refuses BadSlot s r t) (λ x. Then x s r t)

-- the order queries the list at k, and every slot keeps its content
abbrev pub Asks : ℕ → (List Bool → Reply → Type 0) → Effect
Asks k Answers s r t = Needs (list_at s k) (λ l s r t. Answers l r × (t ≡ s)) s r t

-- the order compares two lists, and every slot keeps its content
abbrev pub Compares : List Bool → List Bool → Effect
Compares l m s r t = (same : Bool) × (r ≡ Truth same) × (IsTrue same ↔ (l ≡ m)) × (t ≡ s)

-- the order edits the open list at k
abbrev pub Edits : ℕ → (List Bool → List Bool) → Effect
Edits k edit s r t = Needs (open_at s k) (λ l. Puts k (Open (edit l))) s r t

-- the order edits the open list at k, if the indices are within the list
abbrev pub EditsWithin : ℕ → (List Bool → Bool) → (List Bool → List Bool) → Effect
EditsWithin k within edit s r t =
    Needs (open_at s k) (λ l. Checks (within l) OutOfRange (Puts k (Open (edit l)))) s r t

-- the order appends truth values to the open list l at k; the new length fits in 64 bits
abbrev pub GrowsBy : ℕ → List Bool → List Bool → Effect
GrowsBy k l more s r t = (length l + length more < 2 ^ 64) × Puts k (Open (l ++ more)) s r t

-- the order appends truth values to the open list at k
abbrev pub AppendsValues : ℕ → List Bool → Effect
AppendsValues k more s r t = Needs (open_at s k) (λ l. GrowsBy k l more) s r t

-- the order fills slot j with the values of a list at the indices, or is refused at the first
-- position whose index is out of range
abbrev pub PutsTaken : ℕ → List Bool → List ℤ → Option (List Bool) → Effect
PutsTaken j l indices validity s r t =
    ((m : List Bool) × IsTaken l indices validity m × Puts j (Frozen m) s r t)
    ⊎ ((p : ℕ) × IsFirstPast l indices validity p × Refuses (TakeOutOfRange p) s r t)

-- the answer is the value at index i, which must be below the length
abbrev pub Gets : ℕ → List Bool → Reply → Type 0
Gets i l r = MatchBool (nat_lt i (length l)) (r ≡ Truth (at l i)) (r ≡ Refused OutOfRange)

-- the answer is the number of true values at indices a..b, which must be a range of the list
abbrev pub CountsRange : ℕ → ℕ → List Bool → Reply → Type 0
CountsRange a b l r =
    MatchBool (is_range a b l) (r ≡ Number (count (slice_range l a b))) (r ≡ Refused OutOfRange)

-- the answer is the index of the true value with n true values before it, or none if there are at
-- most n
abbrev pub Finds : ℕ → List Bool → Reply → Type 0
Finds n l r = (p : Option ℕ) × (r ≡ Place p) × Selects l n p

-- the answer and the effect of an order; it does its checks in the order in which they are written
abbrev pub Step : List Slot → Order → Reply → List Slot → Type 0
Step s (Import k o n bytes) r t =
    Checks (vacant_at s k) BadSlot (Checks (fits o n bytes) BadWindow
    (Puts k (Open (bits bytes o n)))) s r t
Step s (Full k v n) r t = Checks (vacant_at s k) BadSlot (Puts k (Open (replicate n v))) s r t
Step s (Indices k n numbers) r t =
    Checks (vacant_at s k) BadSlot (Checks (all_below n numbers) OutOfRange
    (Puts k (Open (with_true (replicate n false) numbers)))) s r t
Step s (Set k i v) r t = EditsWithin k (λ l. nat_lt i (length l)) (λ l. slice_set l i v) s r t
Step s (Append k v) r t = AppendsValues k (v ∷ []) s r t
Step s (Appendn k v n) r t = AppendsValues k (replicate n v) s r t
Step s (Appendset k j) r t =
    Needs (open_at s k) (λ l. Needs (frozen_at s j) (λ m. GrowsBy k l m)) s r t
Step s (Fill k a b v) r t = EditsWithin k (is_range a b) (λ l. with_fill l a b v) s r t
Step s (Truncate k n) r t = Edits k (take n) s r t
Step s (Clear k) r t = Edits k (λ l. []) s r t
Step s (Flip k) r t = Edits k complement s r t
Step s (Freeze k) r t = Needs (open_at s k) (λ l. Puts k (Frozen l)) s r t
Step s (Thaw k) r t = Needs (frozen_at s k) (λ l. Puts k (Open l)) s r t
Step s (Clone k j) r t =
    Needs (kept_at s k) (λ x. Checks (vacant_at s j) BadSlot (Puts j x)) s r t
Step s (Slice k a b j) r t =
    Needs (frozen_at s k) (λ l. Checks (vacant_at s j) BadSlot (Checks (is_range a b l) OutOfRange
    (Puts j (Frozen (slice_range l a b))))) s r t
Step s (Sliced k j) r t =
    Needs (frozen_at s k) (λ l. Checks (vacant_at s j) BadSlot (Puts j (Frozen l))) s r t
Step s (Combine op mode k j i) r t =
    Needs (frozen_at s k) (λ l. Needs (frozen_at (after_release mode k s) j) (λ m.
    Checks (vacant_at (after_release mode k s) i) BadSlot
    (Checks (length l == length m) LengthMismatch
    (Releases mode k (Puts i (Frozen (combined_by op l m))))))) s r t
Step s (Not mode k j) r t =
    Needs (frozen_at s k) (λ l. Checks (vacant_at (after_release mode k s) j) BadSlot
    (Releases mode k (Puts j (Frozen (complement l))))) s r t
Step s (Take k j m indices) r t =
    Needs (frozen_at s k) (λ l. Checks (vacant_at s j) BadSlot (Needs (validity_at s m) (λ v.
    Checks (is_as_long (length indices) v) LengthMismatch (PutsTaken j l indices v)))) s r t
Step s (Drop k) r t = Needs (kept_at s k) (λ x. Puts k Empty) s r t
Step s (Len k) r t = Asks k (λ l a. a ≡ Number (length l)) s r t
Step s (Count k) r t = Asks k (λ l a. a ≡ Number (count l)) s r t
Step s (Get k i) r t = Asks k (Gets i) s r t
Step s (Countrange k a b) r t = Asks k (CountsRange a b) s r t
Step s (Select k n) r t = Asks k (Finds n) s r t
Step s (Selectunset k n) r t = Asks k (λ l. Finds n (complement l)) s r t
Step s (Last k) r t = Asks k (λ l a. a ≡ Place (last_place l)) s r t
Step s (Bits k) r t = Asks k (λ l a. a ≡ Listed l) s r t
Step s (Places k) r t = Asks k (λ l a. a ≡ ListedPlaces (places l)) s r t
Step s (Runs k) r t = Asks k (λ l a. a ≡ ListedRuns (runs l)) s r t
Step s (Show k) r t = Needs (frozen_at s k) (λ l s r t. (r ≡ Text (bits_text l)) × (t ≡ s)) s r t
Step s (Eq k j) r t = Needs (list_at s k) (λ l. Needs (list_at s j) (Compares l)) s r t

-- a check passes, and then `Then` holds
abbrev pub Passes : Bool → Effect → Effect
Passes passed Then s r t = IsTrue passed × Then s r t

-- a slot holds what the order needs, and `Then` holds of its content
abbrev pub Has : {X : Type 0} → Option X → (X → Effect) → Effect
Has held Then s r t = MatchOption held ⊥ (λ x. Then x s r t)

-- memory runs out after slot k released its list: the slot is empty, and all others keep their
-- content
abbrev pub Loses : ℕ → Effect
Loses k s r t = (r ≡ Refused OutOfMemory) × (t ≡ slice_set s k Empty)

-- an append that makes a list of n values is refused: because memory runs out, if n fits in 64
-- bits, or because of its bit indices, if n is more than 2 ^ 64 - 8
abbrev pub RefusesLength : ℕ → Effect
RefusesLength n s r t =
    ((n < 2 ^ 64) × Refuses OutOfMemory s r t) ⊎ ((2 ^ 64 - 8 < n) × Refuses TooManyBits s r t)

-- the answer and the effect of an order that is refused because of memory or bit indices, after its
-- checks passed
abbrev pub GivesUp : List Slot → Order → Reply → List Slot → Type 0
GivesUp s (Import k o n bytes) r t =
    Passes (vacant_at s k) (Passes (fits o n bytes) (Refuses OutOfMemory)) s r t
GivesUp s (Full k v n) r t = Passes (vacant_at s k) (Refuses OutOfMemory) s r t
GivesUp s (Indices k n numbers) r t =
    Passes (vacant_at s k) (Passes (all_below n numbers) (Refuses OutOfMemory)) s r t
GivesUp s (Append k v) r t = Has (open_at s k) (λ l. RefusesLength (length l + 1)) s r t
GivesUp s (Appendn k v n) r t = Has (open_at s k) (λ l. RefusesLength (length l + n)) s r t
GivesUp s (Appendset k j) r t =
    Has (open_at s k) (λ l. Has (frozen_at s j) (λ m. RefusesLength (length l + length m))) s r t
GivesUp s (Freeze k) r t = Has (open_at s k) (λ l. Loses k) s r t
GivesUp s (Thaw k) r t = Has (frozen_at s k) (λ l. Loses k) s r t
GivesUp s (Clone k j) r t =
    Has (kept_at s k) (λ x. Passes (vacant_at s j) (Refuses OutOfMemory)) s r t
GivesUp s (Slice k a b j) r t =
    Has (frozen_at s k) (λ l. Passes (vacant_at s j) (Passes (is_range a b l)
    (Refuses OutOfMemory))) s r t
GivesUp s (Sliced k j) r t =
    Has (frozen_at s k) (λ l. Passes (vacant_at s j) (Refuses OutOfMemory)) s r t
GivesUp s (Combine op mode k j i) r t =
    Has (frozen_at s k) (λ l. Has (frozen_at (after_release mode k s) j) (λ m.
    Passes (vacant_at (after_release mode k s) i) (Passes (length l == length m)
    (Releases mode k (Refuses OutOfMemory))))) s r t
GivesUp s (Not mode k j) r t =
    Has (frozen_at s k) (λ l. Passes (vacant_at (after_release mode k s) j)
    (Releases mode k (Refuses OutOfMemory))) s r t
GivesUp s (Take k j m indices) r t =
    Has (frozen_at s k) (λ l. Passes (vacant_at s j) (Has (validity_at s m) (λ v.
    Passes (is_as_long (length indices) v) (Refuses OutOfMemory)))) s r t
GivesUp s (Bits k) r t = Has (list_at s k) (λ l. Refuses OutOfMemory) s r t
GivesUp s (Places k) r t = Has (list_at s k) (λ l. Refuses OutOfMemory) s r t
GivesUp s (Runs k) r t = Has (list_at s k) (λ l. Refuses OutOfMemory) s r t
GivesUp s (Show k) r t = Has (frozen_at s k) (λ l. Refuses OutOfMemory) s r t
GivesUp s c r t = ⊥

-- any outcome of an order, out of memory included
abbrev pub Outcome : List Slot → Order → Reply → List Slot → Type 0
Outcome s c r t = Step s c r t ⊎ GivesUp s c r t

-- orders run one after the other, each with one answer
abbrev pub Run : List Slot → List Order → List Reply → List Slot → Type 0
Run s [] [] t = t ≡ s
Run s (c ∷ cs) (r ∷ rs) t = (m : List Slot) × Outcome s c r m × Run m cs rs t
Run s [] (r ∷ rs) t = ⊥
Run s (c ∷ cs) [] t = ⊥
