use Rattle.std.proofs.Common.{◌≡◌, ℕ, ◌+◌, ◌*◌, subst, arith}
use Rattle.std.specs.Prelude.{slice_range}
use Rattle.vb_bits.specs.Bits.{count}
use Rattle.vb_bits.proofs.BitsLemmas.{length-bits}
use Rattle.vb_view.specs.View.{bits_of}
use Rattle.vb_aggregate.proofs.WordsLemmas.{empty_word, empty_join}
use Rattle.vb_aggregate.proofs.walk.next_nonempty.Goals as goal

pub overflow_mul-t : goal.overflow_mul-t
overflow_mul-t c =
    let mask = c.args.mask in
    omega (
      arith,
      c.requires.inside,
      c.loop-t-test.true,
      length-bits mask.bytes.now mask.offset mask.len,
      mask.fits,
    )

pub loop-t-preserved : goal.loop-t-preserved
loop-t-preserved c =
    let bits = bits_of c.args.mask in
    let from : ℕ = c.args.from in
    let t : ℕ = c.loop-t.t in
    let so_far = c.loop-t.invariant in
    let gone : c.view_word-word.result ≡ 0 = omega arith in
    let empty =
    empty_word bits (64 * t) 64 c.view_word-word.result gone c.view_word-word.ensures.digits in
    let end : 64 * t + 64 ≡ 64 * (t + 1) = omega arith in
    record {
      after = omega (arith, so_far.after);
      within = omega (arith, so_far.within, c.loop-t-test.true);
      empty = subst (λ k. count (slice_range bits (64 * from) k) ≡ 0) end
          (empty_join bits (64 * from) (64 * t) (64 * t + 64) (omega (arith, so_far.after))
          (omega arith) so_far.empty empty);
    }
