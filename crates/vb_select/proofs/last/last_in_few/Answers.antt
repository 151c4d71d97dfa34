use Rattle.std.proofs.Common.{◌≡◌, ◌+◌, ◌-◌, Some, subst, arith}
use Rattle.std.specs.Int.Count.{count_leading_zeros}
use Rattle.vb_bits.specs.Bits.{bits}
use Rattle.vb_bits.specs.Nearest.{IsPrevious}
use Rattle.vb_count.specs.Hits.{hits}
use Rattle.vb_select.proofs.LastLemmas.{IsPrevious-word}
use Rattle.vb_select.proofs.NearestLemmas.{off-zero, Shows-window}
use Rattle.vb_select.proofs.last.last_in_few.Goals as goal

pub returns-then-word-eq0 : goal.returns-then-word-eq0
returns-then-word-eq0 c = λ i l.
    let b = c.args.bytes.now in let o = c.args.offset in let v = c.args.value in
    let n = c.args.len in let w = c.read_matches-word in
    off-zero v b o n 0 n w.result (Shows-window v b o n w.result w.ensures.digits)
    c.if-word-eq0.true i (omega arith) (omega arith)

pub returns : goal.returns
returns c =
    let b = c.args.bytes.now in let o = c.args.offset in let v = c.args.value in
    let n = c.args.len in let w = c.read_matches-word in
    let place : 0 + (63 - count_leading_zeros 64 w.result)
    ≡ 63 - count_leading_zeros 64 w.result = omega arith in
    subst (λ p. IsPrevious (hits v (bits b o n)) n (Some p)) place
    (IsPrevious-word v b o n 0 n w.result (Shows-window v b o n w.result w.ensures.digits)
    (omega (arith, c.if-word-eq0.false)) w.ensures.clear c.requires.few (omega arith)
    (λ i lo hi. absurd (omega arith)))
