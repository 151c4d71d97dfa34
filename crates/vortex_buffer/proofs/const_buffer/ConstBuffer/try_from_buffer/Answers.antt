-- `N` bytes have one exponent, and it was compared with that of the buffer's alignment.
use Rattle.std.proofs.Common.{ℕ, ◌≤◌, rules}
use Rattle.vortex_buffer.proofs.Exponents.{of_bytes}
use Rattle.vortex_buffer.proofs.const_buffer.ConstBuffer.try_from_buffer.Goals as goal

pub of-requires : goal.of-requires
of-requires g c =
    let le : c.new.result ≤ c.args.buffer.alignment = search rules in (
      search rules,
      of_bytes (λ (e : ℕ). e ≤ c.args.buffer.alignment) c.new.result g.row.N c.new.ensures le,
    )
