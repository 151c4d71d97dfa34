-- The result of a take, or of a call by group, that C functions return.
use Rattle.std.specs.Prelude.{ℕ, Option, Some, None, if◌then◌else◌}
use Rattle.vb_c_core.specs.declared.taken.Taken.{Taken}

-- the first position or row that is out of range, if there is one
abbrev pub first_past : Taken → Option ℕ
first_past t = if t.out_of_range then Some t.position else None
