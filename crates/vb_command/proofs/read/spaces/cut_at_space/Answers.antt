use Rattle.std.proofs.Common.{◌≡◌, ◌+◌, ap, ◌∙◌, drop, arith, rules}
use Rattle.std.specs.List.{position_or_len}
use lib.Count.{count_trailing_zeros}
use Rattle.vb_command.proofs.Cuts.{cut-before, cut-behind}
use Rattle.vb_command.proofs.SpaceLemmas.{first_space, spaces_behind}
use Rattle.vb_command.specs.Words.{is_space}
use Rattle.vb_command.proofs.read.spaces.cut_at_space.Goals as goal

pub range-requires-clause-end_boundary : goal.range-requires-clause-end_boundary
range-requires-clause-end_boundary c =
    let f = first_space c.args.text.now c.args.spaces c.requires.spaces c.requires.some in
    cut-before 32 c.args.text.now _ (omega arith) f.0 (omega (arith, f)) (omega (arith, f))

pub range_from-requires : goal.range_from-requires
range_from-requires c =
    let f = first_space c.args.text.now c.args.spaces c.requires.spaces c.requires.some in
    λ _. cut-behind 32 c.args.text.now _ (omega arith) c.utf8.text f.0 (omega (arith, f))
    (omega (arith, f))

pub returns-clause-space : goal.returns-clause-space
returns-clause-space c =
    (first_space c.args.text.now c.args.spaces c.requires.spaces c.requires.some).1

pub returns-clause-part : goal.returns-clause-part
returns-clause-part c =
    let f = first_space c.args.text.now c.args.spaces c.requires.spaces c.requires.some in
    let place : count_trailing_zeros 64 c.args.spaces ≡ position_or_len is_space c.args.text.now =
    f.0 in
    search rules

pub returns-clause-rest : goal.returns-clause-rest
returns-clause-rest c =
    let f = first_space c.args.text.now c.args.spaces c.requires.spaces c.requires.some in
    c.range_from.ensures.value ∙ ap (λ n. drop (n + 1) c.args.text.now) f.0

pub returns-clause-left : goal.returns-clause-left
returns-clause-left c =
    let f = first_space c.args.text.now c.args.spaces c.requires.spaces c.requires.some in
    rw c.range_from.ensures.value (spaces_behind c.args.text.now c.args.spaces
    (count_trailing_zeros 64 c.args.spaces + 1) c.requires.spaces (omega (arith, f)))
