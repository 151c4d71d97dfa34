-- The values that runs represent.
use Rattle.std.specs.Prelude.{ℕ, List, replicate}
use Rattle.std.specs.List.{flat_map}
use Rattle.use_columns.specs.declared.runs.Run.{Run}

-- each value repeated by the length of its run, one run after the other
abbrev pub run_values : List Run → List ℕ
run_values runs = flat_map (λ run. replicate run.len run.value) runs
