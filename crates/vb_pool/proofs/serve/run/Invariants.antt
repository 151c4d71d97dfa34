use Rattle.std.proofs.Common.{◌≡◌, ◌≤◌, length, map, take, vec_len, vec_capacity}
use Rattle.vb_command.specs.Machine.{Run, order_of}
use Rattle.vb_command.specs.Views.{reply}
use Rattle.vb_pool.proofs.serve.run.Given as goal

-- the answers so far are a run of the commands so far, and there is capacity for the others
abbrev pub invariant-loop-command : goal.invariant-loop-command
invariant-loop-command g l = record {
  ran : Run l.fn.pool (map order_of (take l.command-index l.commands))
      (map reply l.answers.items) l.pool;
  counted : vec_len l.answers ≡ l.command-index;
  room : length l.commands ≤ vec_capacity l.answers;
}
