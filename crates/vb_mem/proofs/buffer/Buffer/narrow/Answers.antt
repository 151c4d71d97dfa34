use Rattle.std.proofs.Common.{subst, sym}
use Rattle.vb_mem.specs.SharedBuffer.{CanSlice}
use Rattle.vb_mem.proofs.Slices.{can_slice-narrow}
use Rattle.vb_mem.proofs.buffer.Buffer.narrow.Goals as goal

pub narrow-requires-clause-can_slice : goal.narrow-requires-clause-can_slice
narrow-requires-clause-can_slice g c =
    let range = c.args.range in
    let element = g.T.Element in
    let reported = c.alignment-alignment.ensures in
    let alignment = c.alignment-alignment.result in
    let there =
    can_slice-narrow element.SIZE element.align_exponent c.args.self.now range alignment
    reported.value reported.at_least reported.fits reported.aligned c.requires in
    subst (λ b. CanSlice element.SIZE element.align_exponent b range alignment)
    (sym c.self.view_is) there
