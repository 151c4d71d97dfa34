use Rattle.std.proofs.Common.{◌^◌, refl, arith}
use Rattle.vb_filter.proofs.FieldsLemmas.{joined_each}
use Rattle.vb_filter.proofs.fields.join_sixteens.Goals as goal

pub returns : goal.returns
returns c mask word i packed h =
    joined_each mask word 16 32 2 (2 ^ 64) c.args.kept c.args.powers _ _ _ _ refl (omega arith)
    (λ i. omega arith) (λ i. omega arith) packed c.pair_sixteens.ensures
    c.pair_sixteens-2.ensures i h
