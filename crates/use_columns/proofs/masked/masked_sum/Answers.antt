-- The sum so far and the remaining values are those that the mask selects.
use Rattle.std.proofs.Common.{◌≡◌, ℕ, ◌<◌, ◌≤◌, List, length, slice_index, sym, ap, subst, ◌∙◌}
use Rattle.std.proofs.Common.{arith}
use Rattle.std.specs.List.{All, sum_by}
use Rattle.std.proofs.lemmas.List.Elements.{All-from_get_or, All-rest}
use Rattle.std.proofs.lemmas.List.Sums.{sum_by-cons}
use Rattle.vortex_buffer.proofs.KeptLemmas.{sum_by-places, sum-kept_by-le}
use Rattle.vortex_buffer.specs.Bits.{places}
use Rattle.use_columns.proofs.masked.masked_sum.Goals as goal

pub loop-place-init : goal.loop-place-init
loop-place-init g c =
    let items = c.as_slice-items.result.now in
    let valid = c.args.valid.now.bits in
    let len : length valid ≡ length items = rw c.as_slice-items.ensures c.requires.same_len in
    let few : length items < 4294967296 = rw c.as_slice-items.ensures c.requires.few in
    let same = c.into_iter-place-iterator.ensures.into_iter_gives in
    let all : c.into_iter-place-iterator.result ≡ places valid =
    same ∙ c.set_indices-place-items.ensures.value in
    let below : All (λ i. i < length valid) c.into_iter-place-iterator.result =
    subst (λ ps. All (λ i. i < length valid) ps) (sym same)
    c.set_indices-place-items.ensures.below in
    let small : All (λ x. x ≤ 4294967295) items =
    All-from_get_or (λ x. x ≤ 4294967295) items 0
    (λ k h. omega (arith, (c.type_inv.items k).fits)) in
    let bound = sum-kept_by-le 4294967295 valid items small in
    record {
      whole = omega (
        arith,
        ap (λ (ps : List ℕ). sum_by (slice_index items) ps) all,
        sum_by-places valid items len,
      );
      below = λ k d h. omega (arith, below k d h);
      fits = omega arith;
    }

pub overflow_add-sum : goal.overflow_add-sum
overflow_add-sum g c =
    let f = slice_index c.as_slice-items.result.now in
    let split = ap (λ (ps : List ℕ). sum_by f ps) c.in-Some.ensures.steps
    ∙ sum_by-cons f c.in-Some.place c.next.new.self in
    record { fits = omega (arith, c.from-sum.ensures) }

pub loop-place-preserved : goal.loop-place-preserved
loop-place-preserved g c =
    let items = c.as_slice-items.result.now in
    let f = slice_index items in
    let split = ap (λ (ps : List ℕ). sum_by f ps) c.in-Some.ensures.steps
    ∙ sum_by-cons f c.in-Some.place c.next.new.self in
    record {
      whole = omega (arith, c.from-sum.ensures);
      below = All-rest (λ i. i < length items) c.in-Some.place c.next.new.self
          c.loop-place.place-iterator c.in-Some.ensures.steps c.loop-place.invariant.below;
      fits = c.loop-place.invariant.fits;
    }
