use Rattle.std.proofs.Common.{◌≡◌, ◌+◌, ◌*◌, ◌/◌, ℕ, List, Bool, refl, arith, ◌∙◌}
use Rattle.vb_bits.specs.Bits.{bits, count}
use Rattle.vb_count.specs.Hits.{hits}
use Rattle.vb_count.proofs.HitsLemmas.{count-hits-bits-le, count-hits-bits_none}
use Rattle.vb_count.proofs.HitsLemmas.{count-hits-bits_split}
use Rattle.vb_select.proofs.select.pass_chunks.Goals as goal

pub loop-at-init : goal.loop-at-init
loop-at-init g c = record {
  within = omega arith;
  passed = omega (
    arith,
    count-hits-bits_none c.args.value (g.G.Glance.seen c.args.src.now).bytes c.args.at,
  );
  looks = record { same = refl; looks = omega arith };
}

pub overflow_sub-left : goal.overflow_sub-left
overflow_sub-left g c =
    omega (
      arith,
      c.count_matching-left.ensures.value,
      count-hits-bits-le c.args.value (g.G.Glance.seen c.loop-at.src).bytes
          (8 * (c.args.at / 8 + 64 * c.loop-at.passed)) (512 * c.min-sure.result),
    )

pub loop-at-preserved : goal.loop-at-preserved
loop-at-preserved g c =
    let b : List ℕ = (g.G.Glance.seen c.args.src.now).bytes in let v : Bool = c.args.value in
    let m : ℕ = 512 * c.loop-at.passed in let k : ℕ = 512 * c.min-sure.result in
    let place : ℕ = 8 * (c.args.at / 8 + 64 * c.loop-at.passed) in
    let aligned = c.requires.aligned (omega arith) in
    let here : c.count_matching-left.result ≡ count (hits v (bits b place k)) =
    rw (← c.loop-at.invariant.looks.same) c.count_matching-left.ensures.value in
    record {
      within = omega arith;
      passed = omega (
        arith,
        c.loop-at.invariant.passed,
        count-hits-bits_split v b c.args.at m
            (512 * (c.loop-at.passed + c.min-sure.result)) place k (omega arith) (omega arith),
        here,
        count-hits-bits-le v b place k,
      );
      looks =
          record {
            same = c.count_matching-left.ensures.looks.same ∙ c.loop-at.invariant.looks.same;
            looks = omega (
              arith,
              c.loop-at.invariant.looks.looks,
              c.count_matching-left.ensures.looks.looks,
            );
          };
    }
