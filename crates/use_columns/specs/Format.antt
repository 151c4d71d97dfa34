-- A file of names.
use Rattle.std.specs.Prelude.{ℕ, List, ◌∷◌, length}

-- the record of a name in the file: its length in bytes, and its bytes
abbrev pub record_of : List ℕ → List ℕ
record_of name = length name ∷ name
