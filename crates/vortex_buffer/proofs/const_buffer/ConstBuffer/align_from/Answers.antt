-- `N` bytes have one exponent, and the buffer was aligned with it.
use Rattle.std.proofs.Common.{◌≡◌, ℕ, ◌≤◌, ◌∙◌, ap, inl, inr, rules, arith}
use Rattle.std.specs.Prelude.{IsOkAnd}
use Rattle.vb_mem.specs.SharedBuffer.{IsAlignedTo, Shows, ShowsMade}
use Rattle.vortex_buffer.proofs.Exponents.{of_bytes, least_of_bytes, aligned_or_not}
use Rattle.vortex_buffer.proofs.const_buffer.ConstBuffer.align_from.Goals as goal

pub aligned-requires : goal.aligned-requires
aligned-requires g c =
    least_of_bytes g.T.Element.ALIGN g.T.Element.align_exponent c.alignment.result
    g.row.N g.met.T.Element.lawful.align_is_power c.requires.at_least c.alignment.ensures

pub of-requires : goal.of-requires
of-requires g c =
    let same : c.in_ok-buffer.buffer.alignment ≡ c.alignment.result =
    elim (aligned_or_not c.args.buffer c.alignment.result) [
      | inl is ↦ (c.in_ok-buffer.ensures.in_place is).alignment
      | inr not ↦ (c.in_ok-buffer.ensures.copied not).alignment
    ] in (
      search rules,
      of_bytes (λ (e : ℕ). e ≤ c.in_ok-buffer.buffer.alignment) c.alignment.result
          g.row.N c.alignment.ensures (omega arith),
    )

pub returns-in_err-buffer-clause-in_place : goal.returns-in_err-buffer-clause-in_place
returns-in_err-buffer-clause-in_place g c =
    of_bytes (λ (e : ℕ). IsAlignedTo c.args.buffer e → IsOkAnd c.from_residual.result
    (Shows c.args.buffer.list e c.args.buffer.place c.args.buffer.declared))
    c.alignment.result g.row.N c.alignment.ensures
    (λ is. absurd (c.in_err-buffer.ensures.in_place is))

pub returns-clause-ok : goal.returns-clause-ok
returns-clause-ok g c =
    let list : c.in_ok-buffer.buffer.list ≡ c.args.buffer.list =
    elim (aligned_or_not c.args.buffer c.alignment.result) [
      | inl is ↦ (c.in_ok-buffer.ensures.in_place is).list
      | inr not ↦ (c.in_ok-buffer.ensures.copied not).list
    ] in
    let same : c.in_ok-buffer.buffer.alignment ≡ c.alignment.result =
    elim (aligned_or_not c.args.buffer c.alignment.result) [
      | inl is ↦ (c.in_ok-buffer.ensures.in_place is).alignment
      | inr not ↦ (c.in_ok-buffer.ensures.copied not).alignment
    ] in (
      ap (λ b. b.list) c.of.ensures ∙ list,
      of_bytes (λ (e : ℕ). c.of.result.alignment ≡ e)
          c.alignment.result g.row.N c.alignment.ensures
          (ap (λ b. b.alignment) c.of.ensures ∙ same),
    )

pub returns-clause-in_place : goal.returns-clause-in_place
returns-clause-in_place g c =
    of_bytes (λ (e : ℕ). IsAlignedTo c.args.buffer e
    → Shows c.args.buffer.list e c.args.buffer.place c.args.buffer.declared c.of.result)
    c.alignment.result g.row.N c.alignment.ensures
    (λ is. rw c.of.ensures (c.in_ok-buffer.ensures.in_place is))

pub returns-clause-copied : goal.returns-clause-copied
returns-clause-copied g c =
    of_bytes (λ (e : ℕ). ¬ (IsAlignedTo c.args.buffer e)
    → ShowsMade c.args.buffer.list e c.of.result) c.alignment.result g.row.N c.alignment.ensures
    (λ not. rw c.of.ensures (c.in_ok-buffer.ensures.copied not))
