-- The words of a line, and the fields that words represent: numbers, truth values and modes.
use Rattle.std.specs.Prelude.{ℕ, ◌^◌, Bool, true, false, ◌&&◌, List, codes, length}
use Rattle.std.specs.Prelude.{filter, Option, Some, None, nat_lt, ◌==◌, if◌then◌else◌}
use Rattle.std.specs.List.{slice_split}
use Rattle.std.specs.Option.{option_map}
use Rattle.std.specs.Str.{all_ascii_digits, bytes_eq}
use Rattle.std.specs.Str.Parse.{digits_value}
use Rattle.vb_command.specs.declared.mode.Mode.{Mode}
use Rattle.vb_command.specs.declared.mode.Mode.TheVariants.{Ref, Own}

-- whether a byte is a space (code 32)
abbrev pub is_space : ℕ → Bool
is_space b = b == 32

-- whether a part between spaces is a word: it is not empty
abbrev pub is_word : List ℕ → Bool
is_word part = nat_lt 0 (length part)

-- the words of a line
abbrev pub line_words : List ℕ → List (List ℕ)
line_words line = filter is_word (slice_split is_space line)

-- whether a word is a number: it has only decimal digits, and their value fits in 64 bits
abbrev pub is_number : List ℕ → Bool
is_number w = all_ascii_digits w && nat_lt 0 (length w) && nat_lt (digits_value 10 w) (2 ^ 64)

-- the number that a word writes, if it writes one
abbrev pub number : List ℕ → Option ℕ
number w = if is_number w then Some (digits_value 10 w) else None

-- the number that a word writes, or none if the word is `-`
abbrev pub optional_number : List ℕ → Option (Option ℕ)
optional_number w = if bytes_eq w (codes "-") then Some None else option_map Some (number w)

-- the truth value that a word writes, if it writes one
abbrev pub truth : List ℕ → Option Bool
truth w =
    if bytes_eq w (codes "0") then Some false else
    if bytes_eq w (codes "1") then Some true else
    None

-- the mode that a word writes, if it writes one
abbrev pub mode : List ℕ → Option Mode
mode w =
    if bytes_eq w (codes "ref") then Some Ref else
    if bytes_eq w (codes "own") then Some Own else
    None
