use Rattle.std.proofs.Common.{◌^◌, refl, arith}
use Rattle.vb_filter.proofs.FieldsLemmas.{joined}
use Rattle.vb_filter.proofs.fields.join_fours.Goals as goal

pub returns : goal.returns
returns c mask word packed =
    joined mask word 4 8 8 (2 ^ 16) c.args.kept c.args.powers _ _ _ _ refl (omega arith)
    (λ i. omega arith) (λ i. omega arith) packed c.pair_fours.ensures c.pair_fours-2.ensures
