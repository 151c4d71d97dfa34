use Rattle.std.proofs.Common.{◌+◌, ◌%◌, ◌∙◌, ap, subst, sym, map}
use Rattle.std.specs.Int.{div_ceil}
use Rattle.std.proofs.lemmas.List.{length-map}
use Rattle.vb_bits.specs.InBytes.{InBytes}
use Rattle.vb_c_core.proofs.PartLemmas.{part}
use Rattle.vb_view.specs.View.{bits_of}
use Rattle.vb_c_gather.specs.Taken.{TakesAt}
use Rattle.vb_c_gather.proofs.FrontLemmas.{Takes_in_part}
use Rattle.vb_c_gather.proofs.take_bits.take.Goals as goal

pub returns : goal.returns
returns g c =
    let a = c.args in let b = a.out.now in let o = a.o in let f = g.I.BitIndex.number in
    let same = sym (length-map a.indices.now f) in
    Takes_in_part _ _ _ b _ _ o _ (subst (InBytes b o) same c.requires.room)
    (c.div_ceil-end.ensures ∙ ap (λ n. div_ceil (o + n) 8) same)
    (subst (λ V. TakesAt (bits_of a.window) (map f a.indices.now) V (part b o c.div_ceil-end.result)
    c.take_from.new.out (o % 8) c.take_from.result) c.valid_part-valid.ensures.valid
    c.take_from.ensures)
