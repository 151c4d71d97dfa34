-- Truth values combined pair by pair.
use Rattle.std.specs.Prelude.{Bool, not, cond, ◌&&◌, ◌||◌, List}
use Rattle.std.specs.Simd.Lanes.{zip2}
use Rattle.vb_bits.specs.declared.zip.BitOp.{BitOp}
use Rattle.vb_bits.specs.declared.zip.BitOp.TheVariants.{And, Or, Xor, AndNot}

-- the result of an operator on two truth values
abbrev pub bit_op : BitOp → Bool → Bool → Bool
bit_op And a b = a && b
bit_op Or a b = a || b
bit_op Xor a b = cond a (not b) b
bit_op AndNot a b = a && not b

-- two lists of the same length, combined index by index
unfoldable pub merged_by : (Bool → Bool → Bool) → List Bool → List Bool → List Bool
merged_by f l r = zip2 f l r

-- the same for an operator
abbrev pub combined_by : BitOp → List Bool → List Bool → List Bool
combined_by op l r = merged_by (bit_op op) l r
