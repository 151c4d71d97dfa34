use Rattle.std.proofs.Common.{◌+◌, ◌-◌, arith}
use Rattle.vb_select.proofs.NearestLemmas.{Shows-matches, lowest_one, IsNext-word}
use Rattle.vb_select.proofs.NearestLemmas.{IsNext_none, off-zero}
use Rattle.vb_select.proofs.next.next_in_rest.Goals as goal

pub returns-then-word-eq0 : goal.returns-then-word-eq0
returns-then-word-eq0 c =
    let b = c.args.bytes.now in let o = c.args.offset in
    let n = c.args.len in let a = c.args.from in
    let w = c.read_matches-word in
    IsNext_none c.args.value b o n a (a + (n - a)) (omega (arith, c.requires.within))
    (off-zero c.args.value b o n a (n - a) w.result
    (Shows-matches c.args.value b o a (n - a) w.result w.ensures.digits) c.if-word-eq0.true)

pub overflow_add-result : goal.overflow_add-result
overflow_add-result c =
    let w = c.read_matches-word in
    omega (
      arith,
      c.requires.window.fits,
      (lowest_one w.result (c.args.len - c.args.from)
          (omega (arith, c.if-word-eq0.false)) w.ensures.clear c.requires.few).0,
    )

pub returns : goal.returns
returns c =
    let b = c.args.bytes.now in let o = c.args.offset in
    let n = c.args.len in let a = c.args.from in
    let w = c.read_matches-word in
    IsNext-word c.args.value b o n a (n - a) w.result
    (Shows-matches c.args.value b o a (n - a) w.result w.ensures.digits)
    (omega (arith, c.if-word-eq0.false)) w.ensures.clear c.requires.few
    (omega (
      arith,
      (lowest_one w.result (n - a)
          (omega (arith, c.if-word-eq0.false)) w.ensures.clear c.requires.few).0,
    ))
