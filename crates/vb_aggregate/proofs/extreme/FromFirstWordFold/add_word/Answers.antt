use Rattle.std.proofs.Common.{[], ◌≡◌, ◌++◌, sym, ap, subst, ◌∙◌, arith, MatchOption}
use Rattle.std.proofs.lemmas.List.{append-nil}
use Rattle.vb_aggregate.proofs.ExtremesLemmas.{word_from}
use Rattle.vb_aggregate.proofs.OnesLemmas.{kept_zero}
use Rattle.vb_aggregate.specs.Extremes.{Chooses}
use Rattle.vb_aggregate.proofs.extreme.FromFirstWordFold.add_word.Goals as goal

pub returns-then-keep-eq0 : goal.returns-then-keep-eq0
returns-then-keep-eq0 g c xs so_far =
    let nothing = kept_zero c.args.keep c.args.values.now c.if-keep-eq0.true c.requires.clear in
    subst (λ l. Chooses g.F.Fold.shows
    → MatchOption c.args.state (l ≡ []) (λ found. g.F.Fold.shows found l))
    (sym (ap (λ l. xs ++ l) nothing ∙ append-nil xs)) so_far

pub returns : goal.returns
returns g c xs so_far laws =
    word_from g.F.Fold.shows c.args.keep c.args.values.now c.args.state xs
    c.or_first-start.result c.fold_word.result laws (omega (arith, c.if-keep-eq0.false))
    c.requires.clear c.requires.few c.or_first-start.ensures c.fold_word.ensures (so_far laws)
