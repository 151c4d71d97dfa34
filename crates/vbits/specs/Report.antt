-- The result of a run of the program.
use Rattle.std.specs.Prelude.{ℕ, Result, Ok, Err}
use Rattle.vb_script.specs.declared.error.DriveError.{DriveError}
use Rattle.vb_script.specs.declared.error.DriveError.TheVariants.{Unreadable, Read, Write, Memory}

-- the exit status: 0 if the program answered the whole input, 2 if it could not parse a line, and 3
-- if a read, a write or an allocation failed
abbrev pub status_of : Result (Unit {0}) DriveError → ℕ
status_of (Ok x) = 0
status_of (Err (Unreadable line)) = 2
status_of (Err Read) = 3
status_of (Err Write) = 3
status_of (Err Memory) = 3
