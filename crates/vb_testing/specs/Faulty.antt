-- The parts of a `FaultyReader` and a `FaultyWriter` that contracts see.
use Rattle.std.specs.Prelude.{◌≡◌, ℕ, zero, suc, ◌+◌, Option, Some, None}
use Rattle.vb_testing.specs.declared.faulty.FaultyReader.{FaultyReader}
use Rattle.vb_testing.specs.declared.faulty.FaultyWriter.{FaultyWriter}

-- the reader that is read from
abbrev pub reader_inner : {R : Type 0} → FaultyReader R → R
reader_inner r = r.inner

-- the number of bytes left before the fault, or `None` after it
abbrev pub bytes_until_fault : {R : Type 0} → FaultyReader R → Option ℕ
bytes_until_fault r = r.until_fault

-- n bytes fewer are left before the fault; if no fault is to come, that doesn't change
abbrev pub LeavesUntilFault : Option ℕ → Option ℕ → ℕ → Type 0
LeavesUntilFault None new n = new ≡ None
LeavesUntilFault (Some old) None n = ⊥
LeavesUntilFault (Some old) (Some new) n = new + n ≡ old

-- the writer that is written to
abbrev pub writer_inner : {W : Type 0} → FaultyWriter W → W
writer_inner w = w.inner

-- the number of writes left before the fault, or `None` after it
abbrev pub writes_until_fault : {W : Type 0} → FaultyWriter W → Option ℕ
writes_until_fault w = w.until_fault

-- the same after one more write; at `Some 0` that write is the fault
abbrev pub writes_after_one : Option ℕ → Option ℕ
writes_after_one None = None
writes_after_one (Some zero) = None
writes_after_one (Some (suc n)) = Some n
