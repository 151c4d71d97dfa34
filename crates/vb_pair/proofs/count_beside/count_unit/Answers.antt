use Rattle.std.proofs.Common.{◌*◌, ℕ, List, refl, arith, ◌∙◌}
use Rattle.vb_bits.proofs.BytesLemmas.{bits_of_read}
use Rattle.vb_pair.proofs.BesideLemmas.{merged_ones_of_unit}
use Rattle.vb_pair.proofs.count_beside.count_unit.Goals as goal

pub returns-clause-value : goal.returns-clause-value
returns-clause-value g c =
    let a : List ℕ = (g.L.Glance.seen c.args.left.now).bytes in
    let b : List ℕ = (g.R.Glance.seen c.args.right.now).bytes in
    let l : ℕ = c.args.l in let j : ℕ = c.div_ceil.result in let w : ℕ = g.U.Unit.SIZE in
    let left = c.as_bytes.ensures.value ∙ c.read-unit.ensures.value in
    let right = c.as_bytes-other.ensures.value ∙ c.read-next.ensures.value in
    rw c.SIZE.ensures at c.unit_ones.ensures.value
    ∙ merged_ones_of_unit g.M.Merge.bit a b c.as_bytes.result.now c.as_bytes-other.result.now
    c.args.held.now l j w 0 (8 * w) (8 * l) c.args.r (bits_of_read a a _ l w (8 * l) refl left refl)
    (λ h. bits_of_read b b _ j w (8 * j) refl right refl) c.requires.held
    (omega arith) (omega arith) (omega arith)
