use Rattle.std.proofs.Common.{◌/◌, ◌%◌, ℕ, List, ap, arith, ◌∙◌, [], ◌∷◌}
use Rattle.vb_pair.specs.Merged.{merged_ones}
use Rattle.vb_count.proofs.RestLemmas.{bits_of_byte_at}
use Rattle.vb_pair.proofs.MergedLemmas.{merged_ones_none}
use Rattle.vb_pair.proofs.BesideLemmas.{merged_ones_of_unit, held_behind_part}
use Rattle.vb_pair.proofs.count_beside.count_part.Goals as goal

pub returns-then-len-eq0-clause-value : goal.returns-then-len-eq0-clause-value
returns-then-len-eq0-clause-value g c =
    let f = g.M.Merge.bit in
    let a : List ℕ = (g.L.Glance.seen c.args.left.now).bytes in
    let b : List ℕ = (g.R.Glance.seen c.args.right.now).bytes in
    omega (
      arith,
      ap (λ n. merged_ones f a c.args.l b c.args.r n) c.if-len-eq0.true,
      merged_ones_none f a b c.args.l c.args.r,
    )

pub returns-clause-value : goal.returns-clause-value
returns-clause-value g c =
    let f = g.M.Merge.bit in
    let a : List ℕ = (g.L.Glance.seen c.args.left.now).bytes in
    let b : List ℕ = (g.R.Glance.seen c.args.right.now).bytes in
    let i : ℕ = c.args.l / 8 in let j : ℕ = c.div_ceil.result in
    c.unit_ones.ensures.value
    ∙ merged_ones_of_unit f a b (c.byte.result ∷ []) (c.next_byte.result ∷ []) c.args.held.now
    i j 1 (c.args.l % 8) c.args.len c.args.l c.args.r
    (bits_of_byte_at a c.byte.result i 8 c.byte.ensures.value (omega arith))
    (λ h. bits_of_byte_at b c.next_byte.result j 8 (c.next_byte.ensures.value (omega arith))
    (omega arith))
    (c.requires.held (omega arith)) (omega arith) (omega arith)
    (omega (arith, c.requires.in_byte (omega arith)))

pub returns-clause-held : goal.returns-clause-held
returns-clause-held g c =
    let b : List ℕ = (g.R.Glance.seen c.args.right.now).bytes in
    λ before. held_behind_part b c.args.held.now _ c.args.r c.div_ceil.result c.args.len before
    (λ h. c.unit_ones.ensures.last ∙ c.next_byte.ensures.value (omega arith))
    (λ h. c.unit_ones.ensures.last ∙ c.next_byte.ensures.stays (omega arith))
    (omega arith) (omega arith) (omega (arith, c.requires.in_byte (omega arith)))
