use Rattle.std.proofs.Common.{◌++◌, ◌∷◌, [], take, rules, ap, ◌∙◌, sym}
use Rattle.std.proofs.lemmas.List.{take_more, map_push}
use Rattle.vb_pool.proofs.Runs.{Run-append}
use Rattle.vb_pool.proofs.serve.run.Goals as goal

pub loop-command-preserved : goal.loop-command-preserved
loop-command-preserved g c =
    let i = c.loop-command.command-index in
    let commands =
    take_more c.args.commands.now i c.command-item.result c.loop-command-test.true
    ∙ ap (λ x. take i c.args.commands.now ++ x ∷ []) (sym c.command-item.is) in
    let answers = rw c.unwrap.ensures at c.push.ensures.items in
    record {
      ran = rw (commands, map_push, answers, map_push)
          (Run-append _ _ _ _ _ _ _ c.loop-command.invariant.ran c.serve.ensures.outcome);
      counted = search rules;
      room = search rules;
    }
