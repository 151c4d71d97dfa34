-- The values so far and the remaining ones are those that the mask selects.
use Rattle.std.proofs.Common.{◌≡◌, ℕ, ◌<◌, List, [], ◌∷◌, ◌++◌, length, map, slice_index, sym, ap}
use Rattle.std.proofs.Common.{subst, refl, ◌∙◌, arith}
use Rattle.std.specs.List.{All}
use Rattle.std.proofs.lemmas.List.{append_assoc}
use Rattle.std.proofs.lemmas.List.Elements.{All-rest}
use Rattle.vortex_buffer.proofs.KeptLemmas.{map-places}
use Rattle.vortex_buffer.specs.Bits.{places}
use Rattle.use_columns.proofs.masked.masked_min_max.Goals as goal

pub loop-place-init : goal.loop-place-init
loop-place-init g c =
    let items = c.as_slice-items.result.now in
    let valid = c.args.valid.now.bits in
    let len : length valid ≡ length items = rw c.as_slice-items.ensures c.requires.same_len in
    let same = c.into_iter-place-iterator.ensures.into_iter_gives in
    let all : c.into_iter-place-iterator.result ≡ places valid =
    same ∙ c.set_indices-place-items.ensures.value in
    let below : All (λ i. i < length valid) c.into_iter-place-iterator.result =
    subst (λ ps. All (λ i. i < length valid) ps) (sym same)
    c.set_indices-place-items.ensures.below in
    record {
      ends = (
        [],
        ap (λ (ps : List ℕ). map (slice_index items) ps) all
            ∙ map-places 0 valid items len,
        refl,
      );
      below = λ k d h. omega (arith, below k d h);
    }

pub loop-place-preserved : goal.loop-place-preserved
loop-place-preserved g c =
    let items = c.as_slice-items.result.now in
    let f = slice_index items in
    let step = ap (λ (ps : List ℕ). map f ps) c.in-Some.ensures.steps in
    let so_far = c.loop-place.invariant.ends in
    let next : List ℕ = f c.in-Some.place ∷ [] in
    record {
      ends = (
        so_far.0 ++ next,
        append_assoc so_far.0 next (map f c.next.new.self)
            ∙ ap (λ (l : List ℕ). so_far.0 ++ l) (sym step) ∙ so_far.1,
        c.widened.ensures so_far.0 so_far.2,
      );
      below = All-rest (λ i. i < length items) c.in-Some.place c.next.new.self
          c.loop-place.place-iterator c.in-Some.ensures.steps c.loop-place.invariant.below;
    }
