-- `N` bytes have one exponent, and the items were copied with it.
use Rattle.std.proofs.Common.{ℕ, ◌≤◌, rules, arith}
use Rattle.vb_mem.specs.SharedBuffer.{ShowsMade}
use Rattle.vortex_buffer.proofs.Exponents.{of_bytes, least_of_bytes}
use Rattle.vortex_buffer.proofs.const_buffer.ConstBuffer.copy_from.Goals as goal

pub copy_from_aligned-requires : goal.copy_from_aligned-requires
copy_from_aligned-requires g c =
    least_of_bytes g.T.Element.ALIGN g.T.Element.align_exponent c.alignment.result
    g.row.N g.met.T.Element.lawful.align_is_power c.requires.at_least c.alignment.ensures

pub of-requires : goal.of-requires
of-requires g c =
    let le : c.alignment.result ≤ c.in_ok-buffer.buffer.alignment =
    omega (arith, c.in_ok-buffer.ensures.ok.alignment) in (
      search rules,
      of_bytes (λ (e : ℕ). e ≤ c.in_ok-buffer.buffer.alignment) c.alignment.result
          g.row.N c.alignment.ensures le,
    )

pub returns : goal.returns
returns g c = record {
  ok = of_bytes (λ (e : ℕ). ShowsMade c.args.items.now e c.of.result) c.alignment.result
      g.row.N c.alignment.ensures (rw c.of.ensures c.in_ok-buffer.ensures.ok);
  refused = tt;
}
