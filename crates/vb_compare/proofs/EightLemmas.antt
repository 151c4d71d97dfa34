-- Eight comparisons, and eights of longer lists.
use Rattle.std.proofs.Common.{◌≡◌, ℕ, ◌-◌, ◌%◌, ◌^◌, ◌<◌, Bool, cond, List, length, map, take, drop}
use Rattle.std.proofs.Common.{sym, ap, subst, ◌∙◌, arith}
use Rattle.std.proofs.lemmas.Simd.{tops_compared, mask_l-mod, mask_l-lt, length-zip2}
use Rattle.std.specs.Int.{Width}
use lib.Lanes.{mask_l, top, zip2}
use mir.Val.{hbits, bits as width}
use Rattle.vb_bits.specs.Digits.{digits}
use Rattle.vb_pack.proofs.MaskLemmas.{digits-mask_l}
use Rattle.vb_compare.proofs.TruthLemmas.{take-zip2, drop-zip2}

-- the number that eight lanes make
module _ {X : Type 0} (w : Width) (t : X → X → Bool) (xs ys : List X)
    (lx : length xs ≡ 8) (ly : length ys ≡ 8) where
  long : length (zip2 t xs ys) ≡ 8
  long = length-zip2 t xs ys (omega arith) ∙ lx

  told : mask_l (map (top (hbits w)) (zip2 (λ x y. cond (t x y) (2 ^ width w - 1) 0) xs ys))
      % 2 ^ 64 ≡ mask_l (zip2 t xs ys)
  told =
      ap (λ ms. mask_l ms % 2 ^ 64) (tops_compared w t xs ys)
      ∙ mask_l-mod (zip2 t xs ys) 64 (omega (arith, long))

  pub digits_of_eight : digits (mask_l (map (top (hbits w))
      (zip2 (λ x y. cond (t x y) (2 ^ width w - 1) 0) xs ys)) % 2 ^ 64) 0 8 ≡ zip2 t xs ys
  digits_of_eight = ap (λ n. digits n 0 8) told ∙ digits-mask_l (zip2 t xs ys) 8 long

  pub clear_of_eight : mask_l (map (top (hbits w))
      (zip2 (λ x y. cond (t x y) (2 ^ width w - 1) 0) xs ys)) % 2 ^ 64 < 2 ^ 8
  clear_of_eight =
      subst (λ n. n < 2 ^ 8) (sym told)
      (subst (λ n. mask_l (zip2 t xs ys) < 2 ^ n) long (mask_l-lt (zip2 t xs ys)))

-- the eight from an index on
pub eight_at : {X : Type 0} (t : X → X → Bool) (at w : ℕ) (xs ys : List X)
    → digits w 0 8 ≡ zip2 t (take 8 (drop at xs)) (take 8 (drop at ys))
    → digits w 0 8 ≡ take 8 (drop at (zip2 t xs ys))
eight_at t at w xs ys e =
    e ∙ sym (ap (take 8) (drop-zip2 t at xs ys) ∙ take-zip2 t 8 (drop at xs) (drop at ys))
