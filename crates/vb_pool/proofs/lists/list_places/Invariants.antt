use Rattle.std.proofs.Common.{◌≡◌, ◌++◌}
use Rattle.vb_bits.specs.Bits.{places}
use Rattle.vb_set.specs.View.{bits_of}
use Rattle.vb_pool.proofs.lists.list_places.Given as goal

-- the previous indices, followed by the remaining ones
abbrev pub invariant-loop-place : goal.invariant-loop-place
invariant-loop-place g l = l.places.items ++ l.place-iterator ≡ places (bits_of l.fn.view)
