-- The order that a line of words writes. It depends on the number of words after the name, on the
-- name, and on the fields.
use Rattle.std.specs.Prelude.{ℕ, Bool, List, [], ◌∷◌, codes, Option, Some, None}
use Rattle.std.specs.Prelude.{if◌then◌else◌}
use Rattle.std.specs.Str.{bytes_eq}
use Rattle.vb_bits.specs.declared.zip.BitOp.TheVariants.{And, Or, Xor, AndNot}
use Rattle.vb_command.specs.Hex.{hex}
use Rattle.vb_command.specs.Listed.{items_of, index}
use Rattle.vb_command.specs.Machine.{Order}
use Rattle.vb_command.specs.Machine as orders
use Rattle.vb_command.specs.Optional.{◌>>=◌}
use Rattle.vb_command.specs.Words.{number, optional_number, truth, mode}
use Rattle.vb_command.specs.declared.mode.Mode.{Mode}

-- a query of the set in one slot whose answer is a list or a text
unfoldable pub listing_of_number : List ℕ → ℕ → Option Order
listing_of_number name k =
    if bytes_eq name (codes "bits") then Some (orders.Bits k) else
    if bytes_eq name (codes "places") then Some (orders.Places k) else
    if bytes_eq name (codes "runs") then Some (orders.Runs k) else
    if bytes_eq name (codes "show") then Some (orders.Show k) else
    None

-- a query of the set in one slot
unfoldable pub question_of_number : List ℕ → ℕ → Option Order
question_of_number name k =
    if bytes_eq name (codes "len") then Some (orders.Len k) else
    if bytes_eq name (codes "count") then Some (orders.Count k) else
    if bytes_eq name (codes "last") then Some (orders.Last k) else
    listing_of_number name k

-- the order of a name and a number
unfoldable pub of_number : List ℕ → ℕ → Option Order
of_number name k =
    if bytes_eq name (codes "clear") then Some (orders.Clear k) else
    if bytes_eq name (codes "flip") then Some (orders.Flip k) else
    if bytes_eq name (codes "freeze") then Some (orders.Freeze k) else
    if bytes_eq name (codes "thaw") then Some (orders.Thaw k) else
    if bytes_eq name (codes "drop") then Some (orders.Drop k) else
    question_of_number name k

-- a query of the set in one slot, with a number
unfoldable pub question_of_numbers : List ℕ → ℕ → ℕ → Option Order
question_of_numbers name k n =
    if bytes_eq name (codes "get") then Some (orders.Get k n) else
    if bytes_eq name (codes "select") then Some (orders.Select k n) else
    if bytes_eq name (codes "selectunset") then Some (orders.Selectunset k n) else
    if bytes_eq name (codes "eq") then Some (orders.Eq k n) else
    None

-- the order of a name and two numbers
unfoldable pub of_numbers : List ℕ → ℕ → ℕ → Option Order
of_numbers name k n =
    if bytes_eq name (codes "truncate") then Some (orders.Truncate k n) else
    if bytes_eq name (codes "appendset") then Some (orders.Appendset k n) else
    if bytes_eq name (codes "clone") then Some (orders.Clone k n) else
    if bytes_eq name (codes "sliced") then Some (orders.Sliced k n) else
    question_of_numbers name k n

-- the order of a name, a number, a truth value and a number
unfoldable pub of_value : List ℕ → ℕ → Bool → ℕ → Option Order
of_value name k v n =
    if bytes_eq name (codes "full") then Some (orders.Full k v n) else
    if bytes_eq name (codes "appendn") then Some (orders.Appendn k v n) else
    None

-- the order of an operator on two lists
unfoldable pub of_operator : List ℕ → Mode → ℕ → ℕ → ℕ → Option Order
of_operator name m l r t =
    if bytes_eq name (codes "and") then Some (orders.Combine And m l r t) else
    if bytes_eq name (codes "or") then Some (orders.Combine Or m l r t) else
    if bytes_eq name (codes "xor") then Some (orders.Combine Xor m l r t) else
    if bytes_eq name (codes "andnot") then Some (orders.Combine AndNot m l r t) else
    None

-- the numbers that two words write
unfoldable pub two_numbers : List ℕ → List ℕ → Option (ℕ × ℕ)
two_numbers a b = do
  x ← number a
  y ← number b
  Some (x, y)

-- the numbers that three words write
unfoldable pub three_numbers : List ℕ → List ℕ → List ℕ → Option (ℕ × ℕ × ℕ)
three_numbers a b c = do
  x ← number a
  y ← number b
  z ← number c
  Some (x, y, z)

-- the `append` of these words
unfoldable pub append_of : List ℕ → List ℕ → Option Order
append_of a b = do
  k ← number a
  v ← truth b
  Some (orders.Append k v)

-- the `indices` of these words
unfoldable pub indices_of : List ℕ → List ℕ → List ℕ → Option Order
indices_of a b c = do
  (t, n) ← two_numbers a b
  numbers ← items_of number c
  Some (orders.Indices t n numbers)

-- the `set` of these words
unfoldable pub set_of : List ℕ → List ℕ → List ℕ → Option Order
set_of a b c = do
  (k, i) ← two_numbers a b
  v ← truth c
  Some (orders.Set k i v)

-- the `not` of these words
unfoldable pub not_of : List ℕ → List ℕ → List ℕ → Option Order
not_of a b c = do
  m ← mode a
  (l, t) ← two_numbers b c
  Some (orders.Not m l t)

-- the `countrange` of these words
unfoldable pub countrange_of : List ℕ → List ℕ → List ℕ → Option Order
countrange_of a b c = do
  (k, i, j) ← three_numbers a b c
  Some (orders.Countrange k i j)

-- the order of a name with a number, a truth value and a number
unfoldable pub value_of : List ℕ → List ℕ → List ℕ → List ℕ → Option Order
value_of name a b c = do
  k ← number a
  v ← truth b
  n ← number c
  of_value name k v n

-- the `import` of these words
unfoldable pub import_of : List ℕ → List ℕ → List ℕ → List ℕ → Option Order
import_of a b c d = do
  (t, o, n) ← three_numbers a b c
  bytes ← hex d
  Some (orders.Import t o n bytes)

-- the `take` of these words
unfoldable pub take_of : List ℕ → List ℕ → List ℕ → List ℕ → Option Order
take_of a b c d = do
  (k, t) ← two_numbers a b
  m ← optional_number c
  indices ← items_of index d
  Some (orders.Take k t m indices)

-- the `fill` of these words
unfoldable pub fill_of : List ℕ → List ℕ → List ℕ → List ℕ → Option Order
fill_of a b c d = do
  (k, i, j) ← three_numbers a b c
  v ← truth d
  Some (orders.Fill k i j v)

-- the `slice` of these words
unfoldable pub slice_of : List ℕ → List ℕ → List ℕ → List ℕ → Option Order
slice_of a b c d = do
  (k, i, j) ← three_numbers a b c
  t ← number d
  Some (orders.Slice k i j t)

-- the order of the name of an operator with these words
unfoldable pub operator_of : List ℕ → List ℕ → List ℕ → List ℕ → List ℕ → Option Order
operator_of name a b c d = do
  m ← mode a
  (l, r, t) ← three_numbers b c d
  of_operator name m l r t

-- the order of a name with one word after it
unfoldable pub one_word : List ℕ → List ℕ → Option Order
one_word name a = do
  k ← number a
  of_number name k

-- the order of a name with two words after it
unfoldable pub two_words : List ℕ → List ℕ → List ℕ → Option Order
two_words name a b =
    if bytes_eq name (codes "append") then append_of a b else (do
      (k, n) ← two_numbers a b
      of_numbers name k n)

-- the order of a name with three words after it
unfoldable pub three_words : List ℕ → List ℕ → List ℕ → List ℕ → Option Order
three_words name a b c =
    if bytes_eq name (codes "indices") then indices_of a b c else
    if bytes_eq name (codes "set") then set_of a b c else
    if bytes_eq name (codes "not") then not_of a b c else
    if bytes_eq name (codes "countrange") then countrange_of a b c else
    value_of name a b c

-- the order of a name with four words after it
unfoldable pub four_words : List ℕ → List ℕ → List ℕ → List ℕ → List ℕ → Option Order
four_words name a b c d =
    if bytes_eq name (codes "import") then import_of a b c d else
    if bytes_eq name (codes "take") then take_of a b c d else
    if bytes_eq name (codes "fill") then fill_of a b c d else
    if bytes_eq name (codes "slice") then slice_of a b c d else
    operator_of name a b c d

-- the order of a name and the words after it
unfoldable pub arguments_of : List ℕ → List (List ℕ) → Option Order
arguments_of name (a ∷ []) = one_word name a
arguments_of name (a ∷ b ∷ []) = two_words name a b
arguments_of name (a ∷ b ∷ c ∷ []) = three_words name a b c
arguments_of name (a ∷ b ∷ c ∷ d ∷ []) = four_words name a b c d
arguments_of name ws = None
