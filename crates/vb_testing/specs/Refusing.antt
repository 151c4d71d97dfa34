-- The part of a `Refusing` that contracts see.
use Rattle.vb_testing.specs.declared.refusing.Refusing.{Refusing}

-- the inner allocator, to which the requests are forwarded
abbrev pub refusing_inner : {B : Type 0} → Refusing B → B
refusing_inner heap = heap.inner
