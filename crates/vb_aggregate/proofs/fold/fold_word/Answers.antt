use Rattle.std.proofs.Common.{◌++◌, sym, subst, arith}
use Rattle.std.proofs.lemmas.List.{append-nil}
use Rattle.vb_aggregate.proofs.OnesLemmas.{kept_zero, kept_full}
use Rattle.vb_aggregate.proofs.fold.fold_word.Goals as goal

pub returns-then-keep-eq0 : goal.returns-then-keep-eq0
returns-then-keep-eq0 g c xs so_far =
    let nothing = kept_zero c.args.keep c.args.values.now c.if-keep-eq0.true c.requires.clear in
    subst (λ l. g.F.Fold.shows c.args.start (xs ++ l)) (sym nothing)
    (subst (g.F.Fold.shows c.args.start) (sym (append-nil xs)) so_far)

pub returns-then-keep-values : goal.returns-then-keep-values
returns-then-keep-values g c xs so_far =
    let all = kept_full c.args.keep c.args.values.now (omega arith) c.requires.clear in
    subst (λ l. g.F.Fold.shows c.fold_all.result (xs ++ l)) (sym all) (c.fold_all.ensures xs so_far)
