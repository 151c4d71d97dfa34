-- `N` bytes have one exponent, and the bytes were copied with it.
use Rattle.std.proofs.Common.{ℕ, ◌≤◌, take, rules, arith}
use Rattle.vb_mem.specs.SharedBuffer.{ShowsMade}
use Rattle.vortex_buffer.proofs.Exponents.{of_bytes}
use Rattle.vortex_buffer.proofs.aligned_buf.copy_to_const_aligned.Goals as goal

pub of-requires : goal.of-requires
of-requires g c =
    let le : c.alignment-alignment.result ≤ c.in_ok-buffer.buffer.alignment =
    omega (arith, c.in_ok-buffer.ensures.copy.ok.alignment) in (
      search rules,
      of_bytes (λ (e : ℕ). e ≤ c.in_ok-buffer.buffer.alignment)
          c.alignment-alignment.result g.row.N c.alignment-alignment.ensures le,
    )

pub returns-clause-copy : goal.returns-clause-copy
returns-clause-copy g c = record {
  ok = of_bytes (λ (e : ℕ). ShowsMade (take c.args.len (g.B.AlignedBuf.unread c.args.buf.now)) e
      c.of.result) c.alignment-alignment.result g.row.N c.alignment-alignment.ensures
      (rw c.of.ensures c.in_ok-buffer.ensures.copy.ok);
  refused = tt;
}
