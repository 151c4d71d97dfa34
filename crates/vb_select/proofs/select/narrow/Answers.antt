use Rattle.std.proofs.Common.{◌≡◌, ◌+◌, ◌-◌, ◌*◌, ◌/◌, ℕ, List, Bool, refl, arith, ap, ◌∙◌}
use Rattle.vb_bits.specs.Bits.{bits, count}
use Rattle.vb_count.specs.Hits.{hits}
use Rattle.vb_count.proofs.HitsLemmas.{count-hits-bits-le, count-hits-bits_none}
use Rattle.vb_count.proofs.HitsLemmas.{count-hits-bits_split}
use Rattle.vb_select.proofs.select.narrow.Goals as goal

pub loop-stretch-init : goal.loop-stretch-init
loop-stretch-init g c = record {
  within = omega arith;
  passed = omega (
    arith,
    count-hits-bits_none c.args.value (g.G.Glance.seen c.args.src.now).bytes c.args.at,
  );
  held = λ short. absurd (omega arith);
  looks = record { same = refl; looks = omega arith };
}

pub loop-stretch-preserved-then-stretch-here : goal.loop-stretch-preserved-then-stretch-here
loop-stretch-preserved-then-stretch-here g c =
    let b : List ℕ = (g.G.Glance.seen c.args.src.now).bytes in let v : Bool = c.args.value in
    let k : ℕ = 512 * c.block-block.result in
    let at : ℕ = c.args.at + 512 * c.loop-stretch.stretch.passed in
    let aligned = c.requires.aligned (omega arith) in
    let place : 8 * (c.args.at / 8 + 64 * c.loop-stretch.stretch.passed) ≡ at = omega arith in
    let here : c.count_matching-here.result ≡ count (hits v (bits b at k)) =
    rw (← c.loop-stretch.invariant.looks.same) c.count_matching-here.ensures.value
    ∙ ap (λ p. count (hits v (bits b p k))) place in
    let paid = c.block-block.ensures.paid (omega (arith, here, count-hits-bits-le v b at k)) in
    record {
      within = omega arith;
      passed = c.loop-stretch.invariant.passed;
      held = λ short. omega (arith, here);
      looks = record {
        same = c.count_matching-here.ensures.looks.same ∙ c.loop-stretch.invariant.looks.same;
        looks = omega (
          arith,
          c.loop-stretch.invariant.looks.looks,
          c.count_matching-here.ensures.looks.looks,
          paid,
        );
      };
    }

pub loop-stretch-preserved : goal.loop-stretch-preserved
loop-stretch-preserved g c =
    let b : List ℕ = (g.G.Glance.seen c.args.src.now).bytes in let v : Bool = c.args.value in
    let passed : ℕ = c.loop-stretch.stretch.passed in
    let chunks : ℕ = c.loop-stretch.stretch.chunks in
    let block : ℕ = c.block-block.result in
    let k : ℕ = 512 * block in
    let at : ℕ = c.args.at + 512 * passed in
    let aligned = c.requires.aligned (omega arith) in
    let place : 8 * (c.args.at / 8 + 64 * passed) ≡ at = omega arith in
    let here : c.count_matching-here.result ≡ count (hits v (bits b at k)) =
    rw (← c.loop-stretch.invariant.looks.same) c.count_matching-here.ensures.value
    ∙ ap (λ p. count (hits v (bits b p k))) place in
    record {
      within = omega arith;
      passed = omega (
        arith,
        c.loop-stretch.invariant.passed,
        count-hits-bits_split v b c.args.at (512 * passed) (512 * (passed + block)) at k
            (omega arith) (omega arith),
        here,
      );
      held = λ short. omega (
        arith,
        c.loop-stretch.invariant.held (omega arith),
        count-hits-bits_split v b at k (512 * chunks)
            (c.args.at + 512 * (passed + block)) (512 * (chunks - block))
            (omega arith) (omega arith),
        here,
      );
      looks = record {
        same = c.count_matching-here.ensures.looks.same ∙ c.loop-stretch.invariant.looks.same;
        looks = omega (
          arith,
          c.loop-stretch.invariant.looks.looks,
          c.count_matching-here.ensures.looks.looks,
        );
      };
    }

pub loop-stretch-smaller-then-stretch-here : goal.loop-stretch-smaller-then-stretch-here
loop-stretch-smaller-then-stretch-here g c =
    let paid = c.block-block.ensures.paid (omega (
      arith,
      c.count_matching-here.ensures.value,
      count-hits-bits-le c.args.value (g.G.Glance.seen c.loop-stretch.src).bytes
          (8 * (c.args.at / 8 + 64 * c.loop-stretch.stretch.passed)) (512 * c.block-block.result),
    )) in
    omega (arith, paid)
