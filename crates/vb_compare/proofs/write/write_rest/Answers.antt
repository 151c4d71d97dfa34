use Rattle.std.proofs.Common.{◌≡◌, ℕ, ◌+◌, ◌-◌, ◌*◌, ◌/◌, Bool, List, length, drop, subst, arith}
use Rattle.std.proofs.lemmas.List.{length-drop}
use Rattle.vb_bits.proofs.WritesLemmas.{Writes_none}
use borrow.Rule.Slice.PartMut.{put_mid}
use Rattle.vb_bits.proofs.DigitsLemmas.{length-digits}
use Rattle.vb_bits.specs.Writes.{Writes}
use Rattle.vb_compare.proofs.BehindLemmas.{Writes_behind}
use Rattle.vb_compare.proofs.write.write_rest.Goals as goal

pub returns-then-n-ne0 : goal.returns-then-n-ne0
returns-then-n-ne0 g c =
    let l : List Bool = g.S.Truths.truths c.args.source.now in
    let out = c.args.out.now in let new = c.write_digits.new.dst in let n = c.args.n in
    let len : c.len.result ≡ length l = c.len.ensures in
    let first : ℕ = (c.args.offset + (c.len.result - n)) / 8 in
    let at : ℕ = c.args.offset + (length l - n) in
    let start : at ≡ 8 * first = omega (arith, c.requires.whole) in
    subst (Writes out (put_mid first (length out - first) out new) at) c.rest_digits.ensures
    (Writes_behind out new first (length out - first) (omega arith) at _ start
    (omega (arith, c.requires.window.inside, length-digits c.rest_digits.result 0 n))
    c.write_digits.ensures)

pub returns-else-n-ne0 : goal.returns-else-n-ne0
returns-else-n-ne0 g c =
    let l : List Bool = g.S.Truths.truths c.args.source.now in
    let from : ℕ = length l - c.args.n in
    Writes_none c.args.out.now (c.args.offset + from) (drop from l)
    (omega (arith, length-drop from l))
