-- Written by tools/write-lists from tools/families/masked_sums.txt.

-- The values that C receives as a flag and a value.
use Rattle.std.specs.Float.{Float}
use Rattle.std.specs.Prelude.{ℕ, ℤ, Option, Some, None, if◌then◌else◌}
use Rattle.vb_c_aggregate.specs.declared.optional.OptionalU8.{OptionalU8}
use Rattle.vb_c_aggregate.specs.declared.optional.OptionalU16.{OptionalU16}
use Rattle.vb_c_aggregate.specs.declared.optional.OptionalU32.{OptionalU32}
use Rattle.vb_c_aggregate.specs.declared.optional.OptionalU64.{OptionalU64}
use Rattle.vb_c_aggregate.specs.declared.optional.OptionalI8.{OptionalI8}
use Rattle.vb_c_aggregate.specs.declared.optional.OptionalI16.{OptionalI16}
use Rattle.vb_c_aggregate.specs.declared.optional.OptionalI32.{OptionalI32}
use Rattle.vb_c_aggregate.specs.declared.optional.OptionalI64.{OptionalI64}
use Rattle.vb_c_aggregate.specs.declared.optional.OptionalF32.{OptionalF32}
use Rattle.vb_c_aggregate.specs.declared.optional.OptionalF64.{OptionalF64}

-- the `u8`, if there is one
abbrev pub optional_u8 : OptionalU8 → Option ℕ
optional_u8 o = if o.has_value then Some o.value else None

-- the `u16`, if there is one
abbrev pub optional_u16 : OptionalU16 → Option ℕ
optional_u16 o = if o.has_value then Some o.value else None

-- the `u32`, if there is one
abbrev pub optional_u32 : OptionalU32 → Option ℕ
optional_u32 o = if o.has_value then Some o.value else None

-- the `u64`, if there is one
abbrev pub optional_u64 : OptionalU64 → Option ℕ
optional_u64 o = if o.has_value then Some o.value else None

-- the `i8`, if there is one
abbrev pub optional_i8 : OptionalI8 → Option ℤ
optional_i8 o = if o.has_value then Some o.value else None

-- the `i16`, if there is one
abbrev pub optional_i16 : OptionalI16 → Option ℤ
optional_i16 o = if o.has_value then Some o.value else None

-- the `i32`, if there is one
abbrev pub optional_i32 : OptionalI32 → Option ℤ
optional_i32 o = if o.has_value then Some o.value else None

-- the `i64`, if there is one
abbrev pub optional_i64 : OptionalI64 → Option ℤ
optional_i64 o = if o.has_value then Some o.value else None

-- the `f32`, if there is one
abbrev pub optional_f32 : OptionalF32 → Option Float
optional_f32 o = if o.has_value then Some o.value else None

-- the `f64`, if there is one
abbrev pub optional_f64 : OptionalF64 → Option Float
optional_f64 o = if o.has_value then Some o.value else None
