use Rattle.std.proofs.Common.{◌≡◌, ℕ, Bool, List, ◌+◌, ◌-◌, ◌/◌, ◌<◌, arith, ap, sym, subst, ◌∙◌}
use Rattle.vb_rank.specs.Tables.{binary_digits, count_before, Rises}
use Rattle.vb_rank.proofs.TablesLemmas.{digits-half}
use Rattle.vb_rank.proofs.block.find_block.Goals as goal
use Rattle.vb_rank.proofs.block.find_block.Goals.{then-here-n, else-here-n}

pub loop-left-preserved : goal.loop-left-preserved
loop-left-preserved g c =
    let t : List ℕ = (g.L.Level.seen c.args.level.now c.args.source.now).entries in
    let low : ℕ = c.loop-left.low in let left : ℕ = c.loop-left.left in let half : ℕ = left / 2 in
    let n : ℕ = c.args.n in
    let w : ℕ = c.args.width in let v : Bool = c.args.value in
    let here : Rises w v t
    → c.bits_before-here.result ≡ count_before w v t (low + half) = λ r.
    (rw c.loop-left.invariant.same at c.bits_before-here.ensures.value)
    (r.small (low + half) (omega arith)) in
    let same = c.bits_before-here.ensures.probe.same ∙ c.loop-left.invariant.same in
    let step = digits-half left (omega arith) in
    let probe = c.bits_before-here.ensures.probe.probes in
    elim c.if-here-n.branch [
      | then-here-n b ↦ record {
        some = omega arith;
        within = omega (arith, b.low-is);
        before = λ r. b.before-is ∙ here r ∙ ap (count_before w v t) (sym b.low-is);
        below = omega (arith, b.before-is, b.if-here-n.true);
        above = λ r more.
            let e : c.if-here-n.low + (left - half) ≡ low + left = omega (arith, b.low-is) in
            subst (λ x. n < count_before w v t x) (sym e)
            (c.loop-left.invariant.above r (omega (arith, more, e)));
        held = c.bits_before-here.ensures.same ∙ c.loop-left.invariant.held;
        same = same;
        halves = omega (arith, c.loop-left.invariant.halves, probe, step);
      }
      | else-here-n b ↦ record {
        some = omega arith;
        within = omega (arith, b.low-is);
        before = λ r. b.before-is
            ∙ c.loop-left.invariant.before r ∙ ap (count_before w v t) (sym b.low-is);
        below = omega (arith, b.before-is);
        above = λ r more.
            let up =
            r.rising (low + half) (c.if-here-n.low + (left - half)) (omega (arith, b.low-is))
            (omega (arith, more, c.requires.size)) in
            omega (arith, up, here r, b.if-here-n.false);
        held = c.bits_before-here.ensures.same ∙ c.loop-left.invariant.held;
        same = same;
        halves = omega (arith, c.loop-left.invariant.halves, probe, step);
      }
    ]

pub returns-clause-probes : goal.returns-clause-probes
returns-clause-probes g c =
    let last : c.loop-left.left - 1 ≡ 0 = omega (arith, c.loop-left-test.false) in
    record {
      same = c.loop-left.invariant.same;
      probes = omega (
        arith,
        c.loop-left.invariant.halves,
        ap binary_digits last,
        ap (λ s. binary_digits (s - 1)) c.requires.size,
      );
    }
