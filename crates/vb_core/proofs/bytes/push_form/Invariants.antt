use Rattle.std.proofs.Common.{◌≡◌, ◌++◌}
use Rattle.std.specs.Prelude.{replicate}
use Rattle.vb_core.proofs.bytes.push_form.Given as goal

abbrev pub invariant-loop : goal.invariant-loop
invariant-loop g l = record {
  added : l.bytes.items ≡ l.initial.bytes.items ++ replicate l.counter 0;
  room : l.bytes.cap ≡ l.initial.bytes.cap;
}
