-- Written by tools/write-lists from tools/families/nearest.txt.
use Rattle.std.proofs.Common.{◌+◌, ◌-◌, ℕ, true, min, refl, ap, arith}
use Rattle.vb_count.proofs.LooksLemmas.{looks_most, looks_same}
use Rattle.vb_select.proofs.LastLemmas.{IsPrevious_longer}
use Rattle.vb_select.proofs.StopsLemmas.{hit_in_front}
use Rattle.vb_select.proofs.last.previous_set_by.Goals as goal

pub returns-clause-value : goal.returns-clause-value
returns-clause-value g c =
    IsPrevious_longer true (g.G.Glance.seen c.args.src.now).bytes c.args.offset c.args.len
    c.min.result c.args.before c.last_match_by.result c.min.ensures c.last_match_by.ensures.value

pub returns-clause-stops : goal.returns-clause-stops
returns-clause-stops g c = λ p to on.
    let o : ℕ = c.args.offset in
    let front = hit_in_front true (g.G.Glance.seen c.args.src.now).bytes o c.args.len c.min.result p
    (omega (arith, c.min.ensures)) (omega (arith, c.min.ensures)) on in
    let it = c.last_match_by.ensures.stops p (omega (arith, c.min.ensures)) front in
    record {
      same = it.same;
      looks = looks_most _ _ _ _ it.looks (looks_same (o + p) (o + p) (c.min.result - p)
          (min c.args.len c.args.before - p) refl (ap (λ m. m - p) c.min.ensures));
    }
