-- The parts of a `BitBufferView` that contracts see.
use Rattle.std.specs.Prelude.{ℕ, Bool, List}
use Rattle.vb_bits.specs.Bits.{bits}
use Rattle.vb_view.specs.declared.view.BitBufferView.{BitBufferView}

-- the bits of the view
abbrev pub bits_of : BitBufferView → List Bool
bits_of v = bits v.bytes.now v.offset v.len

-- the offset of the first bit in the view's bytes
abbrev pub offset_of : BitBufferView → ℕ
offset_of v = v.offset

-- the bytes of the view
abbrev pub bytes_of : BitBufferView → List ℕ
bytes_of v = v.bytes.now
