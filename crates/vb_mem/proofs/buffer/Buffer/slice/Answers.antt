use Rattle.vb_mem.proofs.Slices.{can_slice-narrow}
use Rattle.vb_mem.proofs.buffer.Buffer.slice.Goals as goal

pub slice_with_alignment-requires : goal.slice_with_alignment-requires
slice_with_alignment-requires g c =
    let range = c.args.range in
    let reported = c.alignment-alignment.ensures in
    can_slice-narrow g.T.Element.SIZE g.T.Element.align_exponent c.args.self.now range
    c.alignment-alignment.result reported.value reported.at_least reported.fits reported.aligned
    c.requires
