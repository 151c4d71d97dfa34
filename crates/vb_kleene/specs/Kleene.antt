-- Truth values that may be null, combined by SQL's three-valued logic, which is Kleene's.
use Rattle.std.specs.Prelude.{ℕ, Bool, true, false, not, cond, List, length, replicate}
use Rattle.std.specs.Prelude.{Option, Some, None}
use Rattle.std.specs.Simd.Lanes.{zip2}

-- `and` of two truth values, with None for null: false if one of them is false, else null if one is
-- null, else true
abbrev pub and_truths : Option Bool → Option Bool → Option Bool
and_truths (Some false) b = Some false
and_truths (Some true) b = b
and_truths None (Some false) = Some false
and_truths None (Some true) = None
and_truths None None = None

-- `or` of two truth values: true if one of them is true, else null if one is null, else false
abbrev pub or_truths : Option Bool → Option Bool → Option Bool
or_truths (Some true) b = Some true
or_truths (Some false) b = b
or_truths None (Some true) = Some true
or_truths None (Some false) = None
or_truths None None = None

-- a truth value: the value if it is valid, else null
abbrev pub nullable : Bool → Bool → Option Bool
nullable value valid = cond valid (Some value) None

-- the validity of n values; without one all are valid
abbrev pub valid_list : ℕ → Option (List Bool) → List Bool
valid_list n None = replicate n true
valid_list n (Some validity) = validity

-- the truth values of a column
abbrev pub truths : List Bool → Option (List Bool) → List (Option Bool)
truths values validity = zip2 nullable values (valid_list (length values) validity)

-- whether a truth value is `which`, and not null
abbrev pub is_truth : Bool → Option Bool → Bool
is_truth which None = false
is_truth true (Some value) = value
is_truth false (Some value) = not value
