use Rattle.std.proofs.Common.{◌%◌, length, ap, sym, ◌∙◌, inl, inr, arith}
use Rattle.vb_mem.proofs.Places.{mod-items_on}
use Rattle.vb_mem.proofs.buffer.Buffer.slice_unaligned.Goals as goal

pub slice_with_alignment-requires : goal.slice_with_alignment-requires
slice_with_alignment-requires g c =
    let b = c.args.self.now in
    let range = c.args.range in
    let reported = c.alignment.ensures in
    let size = g.T.Element.SIZE in
    let laws = g.met.T.Element.lawful in
    rw c.of.ensures.exponent (
      c.requires.order,
      c.requires.within,
      omega arith,
      elim reported.aligned [
        | inl empty ↦ inl (omega (arith, ap length empty))
        | inr at ↦ inr (
          mod-items_on b.place range.start size c.alignment.result g.T.Element.align_exponent
              reported.at_least at.0 (ap (λ n. size % n) (sym laws.align_is_power)
              ∙ laws.align_divides_size),
          omega arith,
        )
      ],
    )
