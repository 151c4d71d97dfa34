use Rattle.std.proofs.Common.{subst}
use Rattle.vb_pack.specs.Asked.{CanAsk, span}
use Rattle.vb_pack.proofs.collect.collect_bool_word.Goals as goal

pub collect_full-requires-clause-callable : goal.collect_full-requires-clause-callable
collect_full-requires-clause-callable g c =
    subst (λ n. CanAsk (goal.F-pre g) (goal.F-step g) c.args.f.now (span 0 n))
    c.if-len-eq64.true c.requires.callable
