-- The numbers that two halves of 64 bits represent.
use Rattle.std.specs.Prelude.{◌+◌, ◌*◌, ◌^◌, ℤ, pos, ◌+ℤ◌, ◌*ℤ◌}
use Rattle.vb_c_aggregate.specs.declared.wide.Wide.{Wide}
use Rattle.vb_c_aggregate.specs.declared.wide.SignedWide.{SignedWide}

-- the number that an unsigned pair of halves represents
abbrev pub unsigned_number : Wide → ℤ
unsigned_number n = pos (n.low + n.high * 2 ^ 64)

-- the number that a pair whose higher half has a sign represents
abbrev pub signed_number : SignedWide → ℤ
signed_number n = pos n.low +ℤ n.high *ℤ pos (2 ^ 64)
