-- The parts of a `BitBufferMutView` that contracts see.
use Rattle.std.specs.Prelude.{◌≡◌, ℕ, Bool, List, length}
use Rattle.std.specs.Borrow.{MutBor}
use Rattle.vb_view.specs.declared.mut_view.BitStore.{Ghosts}
use Rattle.vb_view.specs.declared.mut_view.BitBufferMutView.{BitBufferMutView}

-- the store is this reference, and has its value
pub record IsSameReference {T : Type 0} (store reference : MutBor T) : Type 0 where
  pub same_reference : store.ghost_name ≡ reference.ghost_name
  pub value : store.now ≡ reference.now

module _ {S : Type 0} {g : Ghosts S} where
  -- the bits of the view
  abbrev pub mut_bits_of : BitBufferMutView S g → List Bool
  mut_bits_of v = g.bits v.store v.offset v.len

  -- the store: the target of its writes
  abbrev pub store_of : BitBufferMutView S g → S
  store_of v = v.store

  -- the bytes of the store
  abbrev pub mut_bytes_of : BitBufferMutView S g → List ℕ
  mut_bytes_of v = g.bytes v.store

  -- the offset of the view's first bit in these bytes
  abbrev pub mut_place_of : BitBufferMutView S g → ℕ
  mut_place_of v = v.offset

  -- the number of bits
  abbrev pub mut_len_of : BitBufferMutView S g → ℕ
  mut_len_of v = v.len

  -- the view shows these bits, with the first one at this offset
  pub record ShowsWindow (first : ℕ) (shown : List Bool) (v : BitBufferMutView S g) : Type 0 where
    pub bits : mut_bits_of v ≡ shown
    pub place : mut_place_of v ≡ first
    pub len : mut_len_of v ≡ length shown

  -- a write keeps the reference, its kept properties, and the view's offset and length
  pub record KeepsWindow (old new : BitBufferMutView S g) : Type 0 where
    pub same_reference : g.lender new.store ≡ g.lender old.store
    pub kept : g.kept new.store ≡ g.kept old.store
    pub place : new.offset ≡ old.offset
    pub len : new.len ≡ old.len
