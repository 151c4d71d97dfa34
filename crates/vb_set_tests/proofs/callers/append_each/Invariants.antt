use Rattle.std.proofs.Common.{◌≡◌, take}
use Rattle.vb_set.specs.Appender.{target_of, HasAdded}
use Rattle.vb_set_tests.proofs.callers.append_each.Given as goal

-- the previous bits were appended by the same `&mut`
abbrev pub invariant-loop-bit : goal.invariant-loop-bit
invariant-loop-bit g l = record {
  same : (target_of l.appender).ghost_name ≡ (target_of l.initial.appender).ghost_name;
  added : HasAdded l.fn.set (take l.bit-index l.bools) l.appender;
}
