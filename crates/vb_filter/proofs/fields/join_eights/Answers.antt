use Rattle.std.proofs.Common.{◌^◌, refl, arith}
use Rattle.vb_filter.proofs.FieldsLemmas.{joined}
use Rattle.vb_filter.proofs.fields.join_eights.Goals as goal

pub returns : goal.returns
returns c mask word packed =
    joined mask word 8 16 4 (2 ^ 32) c.args.kept c.args.powers _ _ _ _ refl (omega arith)
    (λ i. omega arith) (λ i. omega arith) packed c.pair_eights.ensures c.pair_eights-2.ensures
