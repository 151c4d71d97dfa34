use Rattle.std.proofs.Common.{ℕ, ◌+◌, ◌-◌, ◌≤◌, refl, ◌∙◌, arith}
use Rattle.vb_bits.specs.Bits.{bits}
use Rattle.vb_count.specs.Hits.{hits}
use Rattle.vb_count.proofs.LooksLemmas.{looks_same, looks_some, looks_first, looks_on, looks_had}
use Rattle.vb_count.proofs.LooksLemmas.{looks_most}
use Rattle.vb_select.proofs.StopsLemmas.{long, previous_found, previous_passed, hit_before}
use Rattle.vb_select.proofs.last.last_match_by.Goals as goal

-- the bound on the looks holds without the a looks to come
less_had : (was now most a : ℕ) → now + a ≤ was + most → now ≤ was + most
less_had was now most a before = omega arith

pub loop-left-init : goal.loop-left-init
loop-left-init g c = record {
  within = omega arith;
  same = refl;
  passed = λ i lo hi. absurd (omega arith);
  looks = λ p h. looks_first _ _ _ refl;
}

pub loop-left-preserved : goal.loop-left-preserved
loop-left-preserved g c =
    let b = (g.G.Glance.seen c.args.src.now).bytes in
    let m : ℕ = c.loop-left.left in let k : ℕ = c.last_look-bits.result in
    let inv = c.loop-left.invariant in
    let last = c.last_look-bits.ensures in
    let one = c.in-None.ensures in
    record {
      within = omega (arith, inv.within);
      same = one.look.same ∙ inv.same;
      passed = previous_passed c.args.value b _ c.args.offset c.args.len (m - k) k inv.same
          (omega (arith, inv.within, last.within))
          (λ i lo hi. inv.passed i (omega (arith, last.within)) hi) one.found;
      looks = λ p h. looks_on _ _ _ _ _ _ (inv.looks p (omega (arith, last.within)))
          (last.one p (omega (arith, last.within))) one.look.looks;
    }

pub overflow_add-result : goal.overflow_add-result
overflow_add-result g c = record {
  fits = omega (
    arith,
    c.in-Some.ensures.found.0,
    long c.args.value (g.G.Glance.seen c.loop-left.src).bytes
        (c.args.offset + (c.loop-left.left - c.last_look-bits.result)) c.last_look-bits.result,
    c.last_look-bits.ensures.within,
    c.loop-left.invariant.within,
    c.requires.window.fits,
  );
}

pub returns-in-Some-clause-value : goal.returns-in-Some-clause-value
returns-in-Some-clause-value g c =
    let m : ℕ = c.loop-left.left in let k : ℕ = c.last_look-bits.result in
    let inv = c.loop-left.invariant in
    let last = c.last_look-bits.ensures in
    previous_found c.args.value (g.G.Glance.seen c.args.src.now).bytes _ c.args.offset c.args.len
    (m - k) k c.in-Some.place inv.same (omega (arith, inv.within, last.within))
    (λ i lo hi. inv.passed i (omega (arith, last.within)) hi) c.in-Some.ensures.found

pub returns-in-Some-clause-looks : goal.returns-in-Some-clause-looks
returns-in-Some-clause-looks g c =
    let o : ℕ = c.args.offset in let n : ℕ = c.args.len in let m : ℕ = c.loop-left.left in
    let inv = c.loop-left.invariant in
    let one = c.in-Some.ensures in
    record {
      same = one.look.same ∙ inv.same;
      looks = looks_most _ _ _ _ (looks_had _ _ _ _ _ (inv.looks 0 (omega arith))
          (looks_some (o + 0) (m - 0) (omega arith)) one.look.looks)
          (looks_same (o + 0) o (n - 0) n (omega arith) (omega arith));
    }

pub returns-in-Some-clause-stops : goal.returns-in-Some-clause-stops
returns-in-Some-clause-stops g c = λ p to on.
    let o : ℕ = c.args.offset in let n : ℕ = c.args.len in let m : ℕ = c.loop-left.left in
    let inv = c.loop-left.invariant in
    let one = c.in-Some.ensures in
    let before = hit_before (hits c.args.value (bits (g.G.Glance.seen c.args.src.now).bytes o n))
    m n p inv.passed to on in
    record {
      same = one.look.same ∙ inv.same;
      looks = looks_had _ _ _ _ _ (inv.looks p (omega arith))
          (looks_some (o + p) (m - p) (omega arith)) one.look.looks;
    }

pub returns-clause-value : goal.returns-clause-value
returns-clause-value g c = λ i h.
    c.loop-left.invariant.passed i (omega (arith, c.loop-left-test.false)) h

pub returns-clause-looks : goal.returns-clause-looks
returns-clause-looks g c =
    let o : ℕ = c.args.offset in let n : ℕ = c.args.len in
    let inv = c.loop-left.invariant in
    record {
      same = inv.same;
      looks = looks_most _ _ _ _ (less_had _ _ _ _ (inv.looks 0 (omega arith)))
          (looks_same (o + 0) o (n - 0) n (omega arith) (omega arith));
    }

pub returns-clause-stops : goal.returns-clause-stops
returns-clause-stops g c = λ p to on.
    let o : ℕ = c.args.offset in let n : ℕ = c.args.len in
    let before = hit_before (hits c.args.value (bits (g.G.Glance.seen c.args.src.now).bytes o n))
    c.loop-left.left n p c.loop-left.invariant.passed to on in
    absurd (omega (arith, c.loop-left-test.false, before))
