-- A slot of the pool as a slot of the machine.
use Rattle.vb_command.specs.Machine as machine
use Rattle.vb_pool.specs.declared.slot.Slot.{Slot}
use Rattle.vb_pool.specs.declared.slot.Slot.TheVariants.{Empty, Open, Frozen}

-- the content of a slot, with its set as the list of its bits
abbrev pub content : {A : Type 0} → Slot A → machine.Slot
content Empty = machine.Empty
content (Open set) = machine.Open set
content (Frozen set) = machine.Frozen set.bits
