-- Which results of a combination of truth values are true, and which aren't null.
use Rattle.std.specs.Prelude.{Bool, true, false, ◌||◌, List, map, Option}
use Rattle.std.specs.Option.{option_map}
use Rattle.vb_bits.specs.Operators.{merged_by}
use Rattle.vb_kleene.specs.Kleene.{truths, is_truth}
use Rattle.vb_kleene.specs.declared.column.Column.{Column}
use Rattle.vb_view.specs.View.{bits_of}

-- the truth values of a column
abbrev pub column : Column → List (Option Bool)
column c = truths (bits_of c.values) (option_map bits_of c.validity)

-- which results are true, from the true values of both sides
abbrev pub trues_by : (Bool → Bool → Bool) → List (Option Bool) → List (Option Bool) → List Bool
trues_by f l r = merged_by f (map (is_truth true) l) (map (is_truth true) r)

-- which results are true or false, from the true and the false ones of both sides
abbrev pub valid_by : (Bool → Bool → Bool) → (Bool → Bool → Bool) → List (Option Bool)
    → List (Option Bool) → List Bool
valid_by f g l r = merged_by (λ a b. a || b) (trues_by f l r)
    (merged_by g (map (is_truth false) l) (map (is_truth false) r))
