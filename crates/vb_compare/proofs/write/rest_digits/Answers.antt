use Rattle.std.proofs.Common.{◌≡◌, ◌-◌, Bool, List, length, take, drop, subst, arith}
use Rattle.vb_bits.specs.Digits.{digits}
use Rattle.vb_compare.proofs.TruthLemmas.{last_digits}
use Rattle.vb_compare.proofs.write.rest_digits.Goals as goal

pub returns-else-n-le16 : goal.returns-else-n-le16
returns-else-n-le16 g c =
    let l : List Bool = g.S.Truths.truths c.args.source.now in
    let same_len : c.len.result ≡ length l = c.len.ensures in
    let from : c.len.result - 64 ≡ length l - 64 = omega arith in
    last_digits c.word.result c.args.n l (omega arith)
    (subst (λ k. digits c.word.result 0 64 ≡ take 64 (drop k l)) from c.word.ensures)
    (omega arith)
