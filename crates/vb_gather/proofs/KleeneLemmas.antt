-- Sets made from truth values that may be null.
use Rattle.std.proofs.Common.{◌≡◌, ℕ, Bool, true, List, length, map, Option, is_some}
use Rattle.std.proofs.Common.{sym, ap, subst, ◌∙◌}
use Rattle.std.specs.List.{refill}
use Rattle.std.specs.Option.{ForSome, option_map}
use Rattle.std.specs.Prelude.{Result}
use Rattle.std.specs.Simd.Lanes.{zip2}
use Rattle.std.proofs.lemmas.List.{length-map}
use Rattle.std.proofs.lemmas.Result.{IfOk-weaker}
use Rattle.std.proofs.lemmas.Simd.{length-zip2}
use Rattle.vb_bit_buffer.specs.SharedSet.{SharedSet, IsFreshSet}
use Rattle.vb_bits.specs.Bits.{bits}
use Rattle.vb_bits.specs.Writes.{Writes}
use Rattle.vb_core.specs.declared.error.BufferError.{BufferError}
use Rattle.vb_kleene.specs.Kleene.{truths, is_truth}
use Rattle.vb_kleene.proofs.KleeneLemmas.{length-truths}
use Rattle.vb_mem.specs.Makes.{Makes}
use Rattle.vb_gather.specs.Columns.{IsColumn}
use Rattle.vb_gather.proofs.WrittenOver.{refilled}

-- a set made from bytes that were overwritten
fresh_of : (k : ℕ) (l : List Bool) (xs before after : List ℕ) (s : SharedSet)
    → k ≡ length l → before ≡ xs → Writes before after 0 l
    → IsFreshSet (bits (refill (length xs) xs after) 0 k) s → IsFreshSet l s
fresh_of k l xs before after s len lent written =
    subst (λ m. IsFreshSet m s)
    (ap (λ b. bits b 0 k) (refilled xs after (written.same_len ∙ ap length lent))
    ∙ ap (bits after 0) len ∙ written.window)

-- the combination of two columns
module _ {X : Type 0} (f : X → List Bool) (op : Option Bool → Option Bool → Option Bool)
    (l r : List Bool) (v w : Option X) (same : length r ≡ length l)
    (left : ForSome v (λ x. length (f x) ≡ length l))
    (right : ForSome w (λ x. length (f x) ≡ length l)) where
  abbrev answers : List (Option Bool)
  answers = zip2 op (truths l (option_map f v)) (truths r (option_map f w))

  -- the combination has the same number of values as each side
  length-answers : (h : Option Bool → Bool) → length (map h answers) ≡ length l
  length-answers h =
      let one = length-truths f l v left in
      let other = length-truths f r w (λ x is. right x is ∙ sym same) in
      length-map answers h
      ∙ length-zip2 op (truths l (option_map f v)) (truths r (option_map f w))
      (one ∙ sym (other ∙ same)) ∙ one

  -- two sets of the combination, made from bytes that were overwritten
  pub column_made : (k : ℕ) (xs ys before known trues valid : List ℕ)
      (result : Result (SharedSet × SharedSet) BufferError) → k ≡ length l
      → before ≡ xs → Writes before trues 0 (map (is_truth true) answers)
      → known ≡ ys → Writes known valid 0 (map is_some answers)
      → Makes (λ made. IsFreshSet (bits (refill (length xs) xs trues) 0 k) made.0
      × IsFreshSet (bits (refill (length ys) ys valid) 0 k) made.1) result
      → Makes (λ made. IsColumn answers made.0 made.1) result
  column_made k xs ys before known trues valid result len first one second other sets = record {
    ok = IfOk-weaker result _ _ (λ made both. record {
      trues = fresh_of k (map (is_truth true) answers) xs before trues made.0
          (len ∙ sym (length-answers (is_truth true))) first one both.0;
      valid = fresh_of k (map is_some answers) ys known valid made.1
          (len ∙ sym (length-answers is_some)) second other both.1;
    }) sets.ok;
    refused = sets.refused;
  }
