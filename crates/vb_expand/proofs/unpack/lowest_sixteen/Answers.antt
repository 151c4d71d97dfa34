use Rattle.std.proofs.Common.{◌≡◌, ℕ, ◌+◌, ◌*◌, ◌/◌, ◌%◌, arith}
use Rattle.vb_expand.proofs.UnpackLemmas.{sixteen_digits}
use Rattle.vb_expand.proofs.unpack.lowest_sixteen.Goals as goal

pub returns : goal.returns
returns c =
    let w : ℕ = c.args.word in
    let all : ℕ = w + 18446744073709551616 * (w + 0) in
    sixteen_digits w (all % 256) (all / 256 % 256) (omega arith) (omega arith)
