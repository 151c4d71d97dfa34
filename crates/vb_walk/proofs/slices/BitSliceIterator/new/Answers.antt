use Rattle.std.proofs.Common.{◌≡◌, ℕ, ◌<◌, ◌≤◌, List, length, ap, sym, subst, arith}
use Rattle.std.specs.List.{All}
use Rattle.vb_bits.specs.Bits.{bits}
use Rattle.vb_bits.specs.Runs.{runs}
use Rattle.vb_bits.proofs.BitsLemmas.{length-bits}
use Rattle.vb_bits.proofs.RunsLemmas.{runs_few, runs_within}
use Rattle.vb_walk.proofs.TakenRunLemmas.{runs_left_front}
use Rattle.vb_walk.proofs.slices.BitSliceIterator.new.Goals as goal

pub returns : goal.returns
returns c =
    let l = bits c.args.bytes.now c.args.offset c.args.len in
    let all = runs_left_front c.args.bytes.now c.new.result c.args.offset
    c.args.len c.new.ensures.base c.new.ensures.stop c.new.ensures.bits in
    let len : length l ≡ c.args.len = length-bits c.args.bytes.now c.args.offset c.args.len in
    let Within : List (ℕ × ℕ) → ℕ → Type 0 =
    λ rs n. All (λ run. (run.0 < run.1) × (run.1 ≤ n)) rs in
    record {
      value = all;
      within = subst (λ rs. Within rs c.args.len)
          (sym all) (subst (Within (runs l)) len (runs_within l));
      few = omega (arith, ap length all, runs_few l);
    }
