use Rattle.std.proofs.Common.{◌≡◌, ◌++◌, take, ap, ◌∙◌, arith}
use Rattle.std.proofs.lemmas.List.{length-take}
use Rattle.vb_bits.specs.Bits.{bits}
use Rattle.vb_bits.specs.Operators.{combined_by}
use Rattle.vb_bits.proofs.WindowLemmas.{bits-take_bytes}
use Rattle.vb_bit_bytes.proofs.BytesLemmas.{bits-combined_by}
use Rattle.vb_bit_bytes.proofs.bytewise.combine_into.Goals as goal

pub returns-then-l-r-clause-bits : goal.returns-then-l-r-clause-bits
returns-then-l-r-clause-bits g c =
    let b = c.args.left.now in let t = c.args.right.now in let m = c.div_ceil-count.result in
    let o = c.args.l in let n = c.args.len in
    let same : o ≡ c.args.r = omega arith in
    c.push_combined.ensures.bits o n (omega (arith, length-take m b))
    ∙ ap (λ x. combined_by c.args.op x (bits (take m t) o n))
    (bits-take_bytes m b o n (omega arith))
    ∙ ap (combined_by c.args.op (bits b o n))
    (bits-take_bytes m t o n (omega arith) ∙ ap (λ p. bits t p n) same)

pub returns-clause-bits : goal.returns-clause-bits
returns-clause-bits g c =
    let b = c.args.left.now in
    let old = c.extend_from_slice.new.self.list in
    let m = c.div_ceil-count.result in
    let o = c.args.l in let n = c.args.len in let other = bits c.args.right.now c.args.r n in
    let copied : old ≡ take m b =
    c.in_ok-extend_from_slice.ensures.ok.list ∙ ap (λ x. x ++ take m b) c.requires.empty in
    bits-combined_by c.args.op old _ c.args.right.now o c.args.r n c.combine.ensures.bits
    ∙ ap (λ x. combined_by c.args.op x other)
    (ap (λ x. bits x o n) copied ∙ bits-take_bytes m b o n (omega arith))
