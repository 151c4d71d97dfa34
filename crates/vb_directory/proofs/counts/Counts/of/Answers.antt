use Rattle.std.proofs.Common.{◌≡◌, ℕ, Bool, List, [], ◌∷◌, ◌++◌, ◌+◌, ◌-◌, ◌*◌, ◌<◌, take, length}
use Rattle.std.proofs.Common.{refl, sym, ap, ◌∙◌, arith, subst}
use Rattle.std.proofs.lemmas.List.{length-take, take-take}
use Rattle.vb_bits.specs.Bits.{bits, count}
use Rattle.vb_bits.proofs.BitsLemmas.{count-le, count-bits-le, count-bits-add, length-bits}
use Rattle.vb_bits.proofs.BitsLemmas.{take-bits}
use Rattle.vb_directory.specs.Counts.{AreCounts}
use Rattle.vb_directory.proofs.CountEditsLemmas.{AreCounts-push_group}
use Rattle.vb_directory.proofs.counts.Counts.of.Goals as goal

-- an empty list has an empty list of counts
no_counts : AreCounts [] []
no_counts = record { long = refl; each = λ k i small inside. absurd (omega (arith, inside)) }

pub loop-block-init : goal.loop-block-init
loop-block-init g c =
    let n : ℕ = c.args.bits.len in
    let l : List Bool = bits c.args.bits.bytes.now c.args.bits.offset n in
    let size : length l ≡ n = length-bits c.args.bits.bytes.now c.args.bits.offset n in
    let long : length (take 512 l) ≡ _ = length-take 512 l in
    let made : c.push_before.new.numbers.items ≡ 0 ∷ 0 ∷ 0 ∷ 0 ∷ [] = c.push_before.ensures.items
    ∙ ap (λ (x : List ℕ). x ++ 0 ∷ 0 ∷ 0 ∷ 0 ∷ []) c.in_ok-numbers.ensures.items in
    record {
      some = omega arith;
      room = omega (
        arith,
        c.push_before.ensures.room,
        c.in_ok-numbers.ensures.capacity,
        c.size_for.ensures,
      );
      ones = refl;
      counts = subst (AreCounts (take 512 l)) (sym made)
          (AreCounts-push_group [] (take 512 l) [] 0 0 no_counts refl refl refl (omega arith) refl
          (omega (
            arith,
            long,
            size,
            c.if-blocks-eq0.false,
            c.div_ceil-blocks.ensures,
            c.len.ensures,
          ))
          (omega (arith, long)));
    }

pub overflow_add-ones : goal.overflow_add-ones
overflow_add-ones g c =
    let n : ℕ = c.args.bits.len in
    let k : ℕ = c.loop-block.block in
    let l : List Bool = bits c.args.bits.bytes.now c.args.bits.offset n in
    record {
      fits = omega (
        arith,
        c.loop-block.invariant.ones,
        c.loop-block.invariant.some,
        count-le (take (512 * (k - 1)) l),
        length-take (512 * (k - 1)) l,
        c.count_ones-ones.ensures,
        count-bits-le c.inner.result.now (c.offset.result + 512 * (k - 1)) 512,
        c.loop-block-test.true,
        c.loop-block.auto.block-end,
        c.div_ceil-blocks.ensures,
        c.len.ensures,
        length-bits c.args.bits.bytes.now c.args.bits.offset n,
        c.args.bits.fits,
      );
    }

pub loop-block-preserved : goal.loop-block-preserved
loop-block-preserved g c =
    let b : List ℕ = c.args.bits.bytes.now in let o : ℕ = c.args.bits.offset in
    let n : ℕ = c.args.bits.len in let k : ℕ = c.loop-block.block in
    let l : List Bool = bits b o n in
    let size : length l ≡ n = length-bits b o n in
    let inside : 512 * k < n = omega (
      arith,
      c.loop-block-test.true,
      c.loop-block.auto.block-end,
      c.div_ceil-blocks.ensures,
      c.len.ensures,
      size,
    ) in
    let front : ℕ = 512 * (k - 1) in
    let step : front + 512 ≡ 512 * k = omega (arith, c.loop-block.invariant.some) in
    let read : count (bits c.inner.result.now (c.offset.result + front) 512)
    ≡ count (bits b (o + front) 512) =
    ap (λ x. count (bits x (c.offset.result + front) 512)) c.inner.ensures.bytes
    ∙ ap (λ x. count (bits b (x + front) 512)) c.offset.ensures.value in
    let ones : c.loop-block.ones + c.count_ones-ones.result ≡ count (take (512 * k) l) = omega (
      arith,
      c.loop-block.invariant.ones,
      c.count_ones-ones.ensures,
      read,
      ap count (take-bits b o n front (omega (arith, inside))),
      ap count (take-bits b o n (512 * k) (omega (arith, inside))),
      count-bits-add b o front 512,
      ap (λ x. count (bits b o x)) step,
    ) in
    let same : k + 1 - 1 ≡ k = omega arith in
    let long : length (take (512 * k) l) ≡ 512 * k =
    omega (arith, length-take (512 * k) l, size, inside) in
    let more = length-take (512 * (k + 1)) l in
    record {
      some = omega arith;
      room = omega (arith, c.push_count.ensures.room, c.loop-block.invariant.room);
      ones = ones ∙ ap (λ x. count (take (512 * x) l)) (sym same);
      counts = c.push_count.ensures.pushed (take (512 * k) l) (take (512 * (k + 1)) l)
          c.loop-block.invariant.counts long ones
          (omega (arith, long, inside, c.args.bits.fits))
          (ap (λ x. take x (take (512 * (k + 1)) l)) long
          ∙ take-take (512 * k) (512 * (k + 1)) l (omega arith))
          (omega (arith, long, more, size, inside)) (omega (arith, long, more));
    }
