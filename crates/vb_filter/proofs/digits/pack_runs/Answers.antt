use Rattle.std.proofs.Common.{◌≡◌, ℕ, ◌+◌, ◌-◌, ◌^◌, ◌<◌, ◌≤◌, ◌++◌, false, length}
use Rattle.std.proofs.Common.{append_assoc, lit<, sym, ap, subst, ◌∙◌, arith}
use Rattle.std.proofs.lemmas.List.{append-nil}
use Rattle.vb_bits.specs.Bits.{count}
use Rattle.vb_bits.specs.Digits.{digits, has_bit}
use Rattle.vb_bits.proofs.BitsLemmas.{count-le}
use Rattle.vb_bits.proofs.DigitsLemmas.{digits_none, length-digits}
use Rattle.vb_bits.proofs.ShiftLemmas.{digits_shr}
use Rattle.vb_filter.proofs.PackedDigits.{kept_digits}
use Rattle.vb_filter.proofs.PackedOnes.{kept_digits-zero, ones_so_far}
use Rattle.vb_filter.proofs.PendingLemmas.{joined-digits, joined-lt}
use Rattle.vb_filter.proofs.RunsLemmas.{run_within, kept_run, length-kept_run, part_of_digits}
use Rattle.vb_filter.proofs.digits.pack_runs.Goals as goal
use Rattle.vb_walk.specs.Ones.{CutsOnes}

module _ (word left a b rest : ℕ) (fits : left < 2 ^ 64) (some : a < b)
    (below : (i : ℕ) → i < a → has_bit left i ≡ false) (cut : CutsOnes left a b rest) where
  -- the bits that the lowest run selects, and those that the others select
  run_first : kept_digits left word 0 64
      ≡ digits word a (b - a) ++ kept_digits rest word 0 64
  run_first =
      let inside = run_within left a b rest 64 some below cut fits (omega arith) in
      kept_run left a b rest 64 some below cut fits (omega arith) (digits word 0 64)
      (length-digits word 0 64)
      ∙ ap (λ l. l ++ kept_digits rest word 0 64) (part_of_digits word a (b - a) (omega arith))

  run_many : length (kept_digits left word 0 64)
      ≡ b - a + length (kept_digits rest word 0 64)
  run_many = length-kept_run left a b rest 64 some below cut fits (omega arith)
      (digits word 0 64) (length-digits word 0 64)

  -- they fit in the word after the bits packed so far
  run_room : (packed n mask : ℕ)
      → digits packed 0 n ++ kept_digits left word 0 64 ≡ kept_digits mask word 0 64
      → n + (b - a) ≤ 64
  run_room packed n mask e = omega (
    arith,
    run_many,
    ones_so_far word packed n left mask e,
    count-le (digits mask 0 64),
    length-digits mask 0 64,
  )

pub loop-left-init : goal.loop-left-init
loop-left-init c = record {
  kept = ap (λ l. l ++ kept_digits c.args.mask c.args.word 0 64) (digits_none 0 0);
  clear = lit< tt;
  fits = omega arith;
}

pub loop-left-preserved : goal.loop-left-preserved
loop-left-preserved c =
    let word : ℕ = c.args.word in
    let left : ℕ = c.loop-left.left in
    let packed : ℕ = c.loop-left.packed in
    let n : ℕ = c.loop-left.n in
    let inv = c.loop-left.invariant in
    let fits = inv.fits in
    let run = c.lowest_run-run.ensures in
    let a : ℕ = c.lowest_run-run.result.start in
    let b : ℕ = c.lowest_run-run.result.end in
    let rest : ℕ = c.lowest_run-run.result.rest in
    let room = run_room word left a b rest fits run.some run.below run.cut packed n c.args.mask
    inv.kept in
    let piece : ℕ = c.low_digits.result in
    let more = kept_digits rest word 0 64 in
    let same : digits piece 0 (b - a) ≡ digits word a (b - a) =
    c.low_digits.ensures.digits ∙ digits_shr word a (b - a) in
    record {
      kept = ap (λ l. l ++ more) (joined-digits packed piece n inv.clear (b - a) room)
          ∙ append_assoc (digits packed 0 n) (digits piece 0 (b - a)) more
          ∙ ap (λ l. digits packed 0 n ++ (l ++ more)) same
          ∙ ap (λ l. digits packed 0 n ++ l)
          (sym (run_first word left a b rest fits run.some run.below run.cut)) ∙ inv.kept;
      clear = joined-lt packed piece n inv.clear (b - a) c.low_digits.ensures.clear room;
      fits = omega (arith, run.cut.fewer, inv.fits);
    }

pub returns : goal.returns
returns c =
    let word : ℕ = c.args.word in
    let left : ℕ = c.loop-left.left in
    let packed : ℕ = c.loop-left.packed in
    let n : ℕ = c.loop-left.n in
    let inv = c.loop-left.invariant in
    let none = kept_digits-zero word left (omega (arith, c.loop-left-test.false)) in
    let all : n ≡ count (digits c.args.mask 0 64) = omega (
      arith,
      ones_so_far word packed n left c.args.mask inv.kept,
      ap length none,
    ) in
    record {
      kept = ap (digits packed 0) (sym all) ∙ sym (append-nil (digits packed 0 n))
          ∙ ap (λ l. digits packed 0 n ++ l) (sym none) ∙ inv.kept;
      clear = subst (λ k. packed < 2 ^ k) all inv.clear;
    }

pub overflow_shl-packed : goal.overflow_shl-packed
overflow_shl-packed c =
    let inv = c.loop-left.invariant in
    let run = c.lowest_run-run.ensures in
    let room = run_room c.args.word c.loop-left.left c.lowest_run-run.result.start
    c.lowest_run-run.result.end c.lowest_run-run.result.rest inv.fits run.some run.below run.cut
    c.loop-left.packed c.loop-left.n c.args.mask inv.kept in
    omega (arith, room, run.some)

pub overflow_add-n : goal.overflow_add-n
overflow_add-n c =
    let inv = c.loop-left.invariant in
    let run = c.lowest_run-run.ensures in
    let room = run_room c.args.word c.loop-left.left c.lowest_run-run.result.start
    c.lowest_run-run.result.end c.lowest_run-run.result.rest inv.fits run.some run.below run.cut
    c.loop-left.packed c.loop-left.n c.args.mask inv.kept in
    omega (arith, room)

pub loop-left-smaller : goal.loop-left-smaller
loop-left-smaller c =
    let run = c.lowest_run-run.ensures in
    let many = run_many c.args.word c.loop-left.left c.lowest_run-run.result.start
    c.lowest_run-run.result.end c.lowest_run-run.result.rest c.loop-left.invariant.fits run.some
    run.below run.cut in
    omega (arith, many, run.some)
