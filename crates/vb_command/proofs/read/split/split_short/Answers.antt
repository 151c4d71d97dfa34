use Rattle.std.proofs.Common.{◌≡◌, rules}
use Rattle.std.specs.Prelude.{◌==◌}
use Rattle.std.specs.List.{position_or_len}
use Rattle.vb_command.proofs.Cuts.{cut-before, cut-behind}
use Rattle.vb_command.proofs.read.split.split_short.Goals as goal

pub range-requires-clause-end_boundary : goal.range-requires-clause-end_boundary
range-requires-clause-end_boundary c =
    let place : c.near-at.result ≡ position_or_len (λ b. b == c.args.separator) c.args.text.now =
    search rules in
    cut-before c.args.separator c.args.text.now c.near-at.result c.requires place (search rules)
    c.if-at-text.false

pub range_from-requires : goal.range_from-requires
range_from-requires c =
    let place : c.near-at.result ≡ position_or_len (λ b. b == c.args.separator) c.args.text.now =
    search rules in
    λ _. cut-behind c.args.separator c.args.text.now c.near-at.result c.requires c.utf8.text place
    (search rules) c.if-at-text.false
