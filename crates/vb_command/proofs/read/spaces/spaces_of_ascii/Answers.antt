use Rattle.std.proofs.Common.{take, sym, ◌∙◌, arith}
use Rattle.std.proofs.lemmas.List.{length-take-le}
use Rattle.vb_command.proofs.SpaceLemmas.{equal_mask, least_mask, low_bytes}
use Rattle.vb_command.proofs.read.spaces.spaces_of_ascii.Goals as goal

pub returns-clause-spaces : goal.returns-clause-spaces
returns-clause-spaces c = record {
  bits = equal_mask c.args.bytes.now 32 c.args.len c.requires.bytes c.requires.len;
  short = omega (arith, length-take-le c.args.len c.args.bytes.now (omega arith));
}

pub returns-clause-ascii : goal.returns-clause-ascii
returns-clause-ascii c =
    low_bytes (take c.args.len c.args.bytes.now)
    (sym (least_mask c.args.bytes.now 128 c.args.len c.requires.bytes c.requires.len)
    ∙ c.if-high-len-ne0.false)
