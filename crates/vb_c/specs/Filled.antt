-- Runs, as C functions write them.
use Rattle.std.specs.Prelude.{ℕ}
use Rattle.vb_c.specs.declared.walk.Run.{Run}

-- a run for C
abbrev pub run_of : ℕ × ℕ → Run
run_of r = record { start = r.0; end = r.1 }
