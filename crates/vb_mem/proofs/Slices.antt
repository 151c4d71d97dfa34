-- Parts of a buffer that has the alignment that it reports.
use Rattle.std.proofs.Common.{◌≡◌, ℕ, ◌*◌, ◌%◌, ◌^◌, ◌≤◌, length, subst, sym, ap, ◌∙◌}
use Rattle.std.proofs.Common.{inl, inr, arith}
use Rattle.std.proofs.Math.Nat.{dvd-add}
use Rattle.std.proofs.lemmas.Nat.Gcd.{dvd_of_mod-eq-zero, mod-eq-zero_of_dvd}
use Rattle.std.specs.declared.ops.Range.{Range}
use Rattle.vb_mem.specs.SharedBuffer.{SharedBuffer, IsAlignedTo, CanSlice, CanNarrow}

-- an offset that is a multiple of the alignment keeps the alignment
pub can_slice-narrow : {T : Type 0} (size least : ℕ) (b : SharedBuffer T) (range : Range ℕ)
    (alignment : ℕ)
    → alignment ≡ b.alignment → least ≤ alignment → alignment ≤ b.declared
    → IsAlignedTo b alignment
    → CanNarrow size least b range → CanSlice size least b range alignment
can_slice-narrow size least b range alignment same at_least fits aligned can =
    elim can [
      | inl there ↦ subst (λ n. CanSlice size least b range n) (sym same) there
      | inr on ↦ (
        on.0,
        on.1,
        at_least,
        elim aligned [
          | inl empty ↦ inl (omega (arith, on.0, on.1, ap length empty))
          | inr here ↦ inr (
            mod-eq-zero_of_dvd (2 ^ alignment)
                (dvd-add (2 ^ alignment) (dvd_of_mod-eq-zero (2 ^ alignment) here.0)
                (dvd_of_mod-eq-zero
                (2 ^ alignment) (ap (λ n. range.start * size % 2 ^ n) same ∙ on.2))),
            fits,
          )
        ],
      )
    ]
