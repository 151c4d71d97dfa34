use Rattle.std.proofs.Common.{◌++◌, sym, subst, arith}
use Rattle.vb_aggregate.proofs.OnesLemmas.{kept_full}
use Rattle.vb_aggregate.proofs.float_extreme.ByTestsWordFold.add_word.Goals as goal

pub returns-then-stays : goal.returns-then-stays
returns-then-stays g c xs so_far =
    let all = kept_full c.args.keep c.args.values.now (omega arith) c.requires.clear in
    subst (λ l. g.S.Fold.shows c.args.state (xs ++ l)) (sym all)
    (c.stays.ensures c.if-stays.true xs so_far)
