use Rattle.std.proofs.Common.{ℕ, ◌+◌, ◌-◌, ◌%◌, arith}
use Rattle.vb_select.proofs.LastLemmas.{IsPrevious-before, IsPrevious_later, off-before}
use Rattle.vb_select.proofs.last.last_match.Goals as goal

pub returns-then-len-eq0 : goal.returns-then-len-eq0
returns-then-len-eq0 c = λ i l. absurd (omega (arith, c.if-len-eq0.true))

pub returns-then-word-ne0 : goal.returns-then-word-ne0
returns-then-word-ne0 c =
    let n : ℕ = c.args.len in let o : ℕ = c.args.offset in
    let w = c.matches_before-word in
    (IsPrevious-before c.args.value c.args.bytes.now o n ((8 - (o + n) % 8) % 8) w.result
    w.ensures (omega (arith, c.if-word-ne0.true)) w.type_inv (omega (arith, c.if-len-le64.false))).1

pub returns : goal.returns
returns c =
    let n : ℕ = c.args.len in let o : ℕ = c.args.offset in
    let v = c.args.value in let b = c.args.bytes.now in
    let w = c.matches_before-word in let t : ℕ = (8 - (o + n) % 8) % 8 in
    IsPrevious_later v b o n (n - (64 - t)) c.last_in_words.result (omega arith)
    c.last_in_words.ensures
    (λ i lo hi. off-before v b o n t w.result w.ensures c.if-word-ne0.false i (omega arith) hi)
