use Rattle.std.proofs.Common.{ℕ, ◌+◌, ◌-◌, ◌≤◌, refl, ap, ◌∙◌, arith}
use Rattle.vb_bits.specs.Bits.{bits}
use Rattle.vb_count.specs.Hits.{hits}
use Rattle.vb_count.proofs.LooksLemmas.{looks_same, looks_some, looks_first, looks_on, looks_had}
use Rattle.vb_select.proofs.NearestLemmas.{IsNext_none}
use Rattle.vb_select.proofs.StopsLemmas.{long, next_found, next_passed, hit_within, hit_behind}
use Rattle.vb_select.proofs.next.next_match_by.Goals as goal

-- no look was made
none_had : (was most : ℕ) → was ≤ was + most
none_had was most = omega arith

pub loop-at-init : goal.loop-at-init
loop-at-init g c = record {
  from = omega arith;
  same = refl;
  passed = λ i lo hi. absurd (omega arith);
  most = none_had _ _;
  looks = λ n lo hi. looks_first _ _ _ refl;
}

pub loop-at-preserved : goal.loop-at-preserved
loop-at-preserved g c =
    let b = (g.G.Glance.seen c.args.src.now).bytes in
    let o : ℕ = c.args.offset in let n : ℕ = c.args.len in
    let m : ℕ = c.loop-at.at in let k : ℕ = c.first_look-bits.result in
    let inv = c.loop-at.invariant in
    let first = c.first_look-bits.ensures in
    let one = c.in-None.ensures in
    record {
      from = omega (arith, inv.from);
      same = one.look.same ∙ inv.same;
      passed = next_passed c.args.value b _ o n c.args.from m k inv.same
          (omega (arith, first.within)) inv.passed one.found;
      most = looks_had _ _ _ _ _ (inv.looks n (omega arith) (omega arith))
          (looks_some (o + m) (n - m) (omega arith)) one.look.looks;
      looks = λ z lo hi. looks_on _ _ _ _ _ _ (inv.looks z (omega arith) hi)
          (first.one (z - m) (omega arith) (omega arith) ∙ ap (λ x. 1 + x)
          (looks_same (o + m + k) (o + (m + k)) (z - m - k) (z - (m + k))
          (omega arith) (omega arith)))
          one.look.looks;
    }

pub overflow_add-result : goal.overflow_add-result
overflow_add-result g c = record {
  fits = omega (
    arith,
    c.in-Some.ensures.found.0,
    long c.args.value (g.G.Glance.seen c.loop-at.src).bytes (c.args.offset + c.loop-at.at)
        c.first_look-bits.result,
    c.first_look-bits.ensures.within,
    c.requires.window.fits,
  );
}

pub returns-in-Some-clause-value : goal.returns-in-Some-clause-value
returns-in-Some-clause-value g c =
    let inv = c.loop-at.invariant in
    next_found c.args.value (g.G.Glance.seen c.args.src.now).bytes _ c.args.offset c.args.len
    c.args.from c.loop-at.at c.first_look-bits.result c.in-Some.place inv.same inv.from
    (omega (arith, c.first_look-bits.ensures.within)) inv.passed c.in-Some.ensures.found

pub returns-in-Some-clause-looks : goal.returns-in-Some-clause-looks
returns-in-Some-clause-looks g c =
    let inv = c.loop-at.invariant in
    let one = c.in-Some.ensures in
    record {
      same = one.look.same ∙ inv.same;
      looks = looks_had _ _ _ _ _ (inv.looks c.args.len (omega arith) (omega arith))
          (looks_some (c.args.offset + c.loop-at.at) (c.args.len - c.loop-at.at) (omega arith))
          one.look.looks;
    }

pub returns-in-Some-clause-stops : goal.returns-in-Some-clause-stops
returns-in-Some-clause-stops g c = λ p lo on.
    let v = c.args.value in
    let b = (g.G.Glance.seen c.args.src.now).bytes in
    let o : ℕ = c.args.offset in let n : ℕ = c.args.len in let m : ℕ = c.loop-at.at in
    let inv = c.loop-at.invariant in
    let one = c.in-Some.ensures in
    let behind = hit_behind (hits v (bits b o n)) c.args.from m p inv.passed lo on in
    let within = hit_within v b o n p on in
    record {
      same = one.look.same ∙ inv.same;
      looks = looks_had _ _ _ _ _ (inv.looks (p + 1) (omega arith) (omega arith))
          (looks_some (o + m) (p + 1 - m) (omega arith)) one.look.looks;
    }

pub returns-clause-value : goal.returns-clause-value
returns-clause-value g c =
    IsNext_none c.args.value (g.G.Glance.seen c.args.src.now).bytes c.args.offset c.args.len
    c.args.from c.loop-at.at (omega (arith, c.loop-at-test.false)) c.loop-at.invariant.passed

pub returns-clause-looks : goal.returns-clause-looks
returns-clause-looks g c = record {
  same = c.loop-at.invariant.same;
  looks = c.loop-at.invariant.most;
}

pub returns-clause-stops : goal.returns-clause-stops
returns-clause-stops g c = λ p lo on.
    let v = c.args.value in
    let b = (g.G.Glance.seen c.args.src.now).bytes in
    let o : ℕ = c.args.offset in let n : ℕ = c.args.len in
    let behind = hit_behind (hits v (bits b o n)) c.args.from c.loop-at.at p
    c.loop-at.invariant.passed lo on in
    absurd (omega (arith, c.loop-at-test.false, behind, hit_within v b o n p on))
