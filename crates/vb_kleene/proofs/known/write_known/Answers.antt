use Rattle.std.proofs.Common.{◌≡◌, ◌+◌, ◌-◌, true, length, replicate, sym, ap}
use Rattle.std.proofs.Common.{subst, ◌∙◌, arith}
use Rattle.vb_bits.specs.Bits.{bits}
use Rattle.vb_bits.specs.Operators.{bit_op, combined_by}
use Rattle.vb_bits.specs.Writes.{Writes}
use Rattle.vb_bits.proofs.OperatorsLemmas.{length-merged_by}
use Rattle.vb_view.specs.View.{bits_of}
use Rattle.vb_kleene.proofs.PartLemmas.{Writes-over}
use Rattle.vb_kleene.proofs.known.write_known.Goals as goal

pub returns-clause-trues : goal.returns-clause-trues
returns-clause-trues c =
    let l = bits_of c.args.left in let r = bits_of c.args.right in
    let n = c.len-len.result in let t = c.args.t in let op = c.args.op in
    let left = c.inner.ensures.window in let right = c.inner-2.ensures.window in
    let first = c.copy_bits.new.dst in let last = c.zip_words.new.dst in
    let of_left : bits c.inner.result.now c.offset.result n ≡ l =
    ap (λ o. bits c.inner.result.now o n) c.offset.ensures.value
    ∙ ap (bits c.inner.result.now c.args.left.offset) c.len-len.ensures ∙ left.same in
    let of_right : bits c.inner-2.result.now c.offset-2.result n ≡ r =
    ap (λ o. bits c.inner-2.result.now o n) c.offset-2.ensures.value
    ∙ ap (bits c.inner-2.result.now c.args.right.offset) (c.len-len.ensures ∙ sym c.requires.right)
    ∙ right.same in
    let copied = subst (Writes c.args.trues.now first t) of_left c.copy_bits.ensures in
    let seen : bits first t n ≡ l = ap (bits first t) c.len-len.ensures ∙ copied.window in
    let both = subst (Writes first last t)
    (ap (λ k. combined_by op k (bits c.inner-2.result.now c.offset-2.result n)) seen
    ∙ ap (combined_by op l) of_right) c.zip_words.ensures in
    Writes-over c.args.trues.now first last t l (combined_by op l r)
    (sym (length-merged_by (bit_op op) l r (sym c.requires.right))) copied both

pub returns-clause-valid : goal.returns-clause-valid
returns-clause-valid c =
    let v = c.args.v in let n = c.len-len.result in
    let many : v + n - v ≡ length (bits_of c.args.left) = omega (arith, c.len-len.ensures) in
    subst (λ n. Writes c.args.valid.now c.fill_bits.new.bytes v (replicate n true)) many
    c.fill_bits.ensures
