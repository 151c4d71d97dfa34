-- The index that C functions return.
use Rattle.std.specs.Prelude.{ℕ, Option, Some, None, if◌then◌else◌}
use Rattle.vb_c_core.specs.declared.place.Place.{Place}

-- the index, if there is one
abbrev pub answered_place : Place → Option ℕ
answered_place p = if p.found then Some p.index else None
