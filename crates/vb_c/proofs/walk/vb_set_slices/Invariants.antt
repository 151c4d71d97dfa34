use Rattle.std.proofs.Common.{◌≡◌, ◌<◌, ◌++◌, length, drop, map}
use Rattle.vb_bits.specs.Bits.{bits}
use Rattle.vb_bits.specs.Runs.{runs}
use Rattle.vb_c.specs.Filled.{run_of}
use Rattle.vb_c.proofs.walk.vb_set_slices.Given as goal

abbrev pub invariant-loop-run : goal.invariant-loop-run
invariant-loop-run l = record {
  can_next : goal.iterator-loop-run.can_next l.run-iterator;
  is_finite : goal.iterator-loop-run.is_finite l.run-iterator;
  whole : l.yielded ++ l.run-iterator ≡ runs (bits l.bytes l.offset l.len);
  count : l.written ≡ length l.yielded;
  room : l.written < length l.initial.out;
  len : length l.out ≡ length l.initial.out;
  items : l.out ≡ map run_of l.yielded ++ drop l.written l.initial.out;
}
