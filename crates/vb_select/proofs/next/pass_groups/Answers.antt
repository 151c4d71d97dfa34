use Rattle.std.proofs.Common.{ℕ, ◌+◌, ◌-◌, ◌*◌, refl, arith}
use Rattle.vb_count.proofs.HitsLemmas.{count-hits-bits_split}
use Rattle.vb_select.proofs.NearestLemmas.{any_none, hit_other}
use Rattle.vb_select.proofs.next.pass_groups.Goals as goal

pub returns-then-digits_of_any-ne0-clause-found : goal.returns-then-digits_of_any-ne0-clause-found
returns-then-digits_of_any-ne0-clause-found c = λ more.
    let b = c.args.bytes.now in let v = c.args.value in let n : ℕ = c.args.n in
    let a : ℕ = 8 * c.args.at in let d : ℕ = c.loop-passed.passed in
    let p : ℕ = 8 * (c.args.at + 8 * d) in let k : ℕ = 64 * c.args.size in
    let here = c.digits_of_any.ensures.some (omega (arith, c.if-digits_of_any-ne0.true)) in
    let front = count-hits-bits_split v b a (64 * d) (64 * n) p (64 * (n - d))
    (omega arith) (omega (arith, c.loop-passed.invariant.within)) in
    let back = count-hits-bits_split v b p k (64 * (n - d)) (p + k) (64 * (n - d) - k)
    refl (omega (arith, c.loop-passed-test.true)) in
    omega (arith, here, front, back)

pub loop-passed-preserved : goal.loop-passed-preserved
loop-passed-preserved c =
    let b = c.args.bytes.now in let v = c.args.value in let n : ℕ = c.args.n in
    let a : ℕ = 8 * c.args.at in let d : ℕ = c.loop-passed.passed in
    let p : ℕ = 8 * (c.args.at + 8 * d) in let k : ℕ = 64 * c.args.size in
    let off = c.digits_of_any.ensures.none c.if-digits_of_any-ne0.false in
    let here = any_none v b p k (λ i l. hit_other v _ (off i l)) in
    record {
      within = omega (arith, c.loop-passed-test.true);
      none = omega (
        arith,
        here,
        c.loop-passed.invariant.none,
        count-hits-bits_split v b a (64 * d) (64 * (d + c.args.size)) p k (omega arith)
            (omega arith),
      );
    }
