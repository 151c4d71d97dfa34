-- The word that a comparison of lanes builds.
use Rattle.std.proofs.Common.{◌≡◌, ℕ, ℤ, pos, ◌-◌, ◌%◌, ◌^◌, ◌<◌, Bool, cond, eqb, ltb, int_eq}
use Rattle.std.proofs.Common.{int_lt, All, List, [], ◌∷◌, map, length, FitsSigned, refl, sym, ap}
use Rattle.std.proofs.Common.{◌∙◌, false, replicate, get_or, subst, arith}
use Rattle.std.proofs.lemmas.Bool.Decides.{nat_tests}
use Rattle.std.proofs.lemmas.Int.{ints, to_z-of_z}
use Rattle.std.proofs.lemmas.List.{length-map, length-replicate, same_lists, get_or_default}
use Rattle.std.proofs.lemmas.List.Elements.{All-head, All-tail, All-replicate}
use Rattle.std.proofs.lemmas.Simd.{tops_compared, mask_l-mod, length-zip2, get_or-zip2}
use Rattle.std.specs.Int.{Width}
use lib.Lanes.{mask_l, top, zip2}
use mir.Val.{hbits, bits as width, to_z, of_z}
use Rattle.vb_bits.specs.Digits.{digits}
use Rattle.vb_pack.proofs.MaskLemmas.{digits-mask_l}

-- its bits are the results of the comparison
pub digits_compared : {X : Type 0} (w : Width) (t : X → X → Bool) (xs ys : List X)
    → length xs ≡ 64 → length ys ≡ 64
    → digits (mask_l (map (top (hbits w)) (zip2 (λ x y. cond (t x y) (2 ^ width w - 1) 0) xs ys))
    % 2 ^ 64) 0 64 ≡ zip2 t xs ys
digits_compared w t xs ys lx ly =
    let long : length (zip2 t xs ys) ≡ 64 = length-zip2 t xs ys (omega arith) ∙ lx in
    ap (λ ms. digits (mask_l ms % 2 ^ 64) 0 64) (tops_compared w t xs ys)
    ∙ ap (λ n. digits n 0 64) (mask_l-mod (zip2 t xs ys) 64 (omega arith))
    ∙ digits-mask_l (zip2 t xs ys) 64 long

-- ---- unsigned lanes
same_unsigned : (t : ℕ → ℕ → Bool) (s : ℤ → ℤ → Bool)
    → ((x y : ℕ) → t x y ≡ s (pos x) (pos y)) → (xs ys : List ℕ)
    → zip2 t xs ys ≡ zip2 s (map pos xs) (map pos ys)
same_unsigned t s same [] ys = refl
same_unsigned t s same (x ∷ xs) [] = refl
same_unsigned t s same (x ∷ xs) (y ∷ ys) =
    ap (λ b. b ∷ zip2 t xs ys) (same x y)
    ∙ ap (λ l. s (pos x) (pos y) ∷ l) (same_unsigned t s same xs ys)

pub nat_equal : (x y : ℕ) → eqb x y ≡ int_eq (pos x) (pos y)
nat_equal x y = grind (arith, ints, nat_tests)

pub unsigned_equal : (w : Width) (xs ys : List ℕ) → length xs ≡ 64 → length ys ≡ 64
    → digits (mask_l (map (top (hbits w)) (zip2 (λ x y. cond (eqb x y) (2 ^ width w - 1) 0) xs ys))
    % 2 ^ 64) 0 64 ≡ zip2 int_eq (map pos xs) (map pos ys)
unsigned_equal w xs ys lx ly =
    digits_compared w eqb xs ys lx ly ∙ same_unsigned eqb int_eq nat_equal xs ys

pub unsigned_less : (w : Width) (xs ys : List ℕ) → length xs ≡ 64 → length ys ≡ 64
    → digits (mask_l (map (top (hbits w)) (zip2 (λ x y. cond (ltb x y) (2 ^ width w - 1) 0) xs ys))
    % 2 ^ 64) 0 64 ≡ zip2 int_lt (map pos xs) (map pos ys)
unsigned_less w xs ys lx ly =
    digits_compared w ltb xs ys lx ly ∙ same_unsigned ltb int_lt (λ x y. refl) xs ys

-- ---- signed lanes, which are compared as bits
module _ (w : Width) where
  -- a vector has bits, which read back as the values that it was built from
  pub carried : (xs : List ℤ) → All (FitsSigned w) xs → map (to_z w) (map (of_z w) xs) ≡ xs
  carried [] f = refl
  carried (x ∷ xs) f =
      ap (λ y. y ∷ map (to_z w) (map (of_z w) xs)) (to_z-of_z w x (All-head (FitsSigned w) x xs f))
      ∙ ap (λ l. x ∷ l) (carried xs (All-tail (FitsSigned w) x xs f))

  pub held : (xs : List ℤ) → length xs ≡ 64 → All (FitsSigned w) xs
      → (length (map (to_z w) (map (of_z w) xs)) ≡ 64)
      × All (FitsSigned w) (map (to_z w) (map (of_z w) xs))
  held xs long f =
      subst (λ l. (length l ≡ 64) × All (FitsSigned w) l) (sym (carried xs f)) (long, f)

  pub repeated : (x : ℤ) → FitsSigned w x
      → (length (replicate 64 (to_z w (of_z w x))) ≡ 64)
      × All (FitsSigned w) (replicate 64 (to_z w (of_z w x)))
  repeated x f =
      subst (λ y. (length (replicate 64 y) ≡ 64) × All (FitsSigned w) (replicate 64 y))
      (sym (to_z-of_z w x f)) (length-replicate 64 x, All-replicate (FitsSigned w) 64 x f)

  same_signed : (t : ℕ → ℕ → Bool) (s : ℤ → ℤ → Bool)
      → ((a b : ℤ) → FitsSigned w a → FitsSigned w b → t (of_z w a) (of_z w b) ≡ s a b)
      → (xs ys : List ℤ) → All (FitsSigned w) xs → All (FitsSigned w) ys
      → zip2 t (map (of_z w) xs) (map (of_z w) ys) ≡ zip2 s xs ys
  same_signed t s same [] ys f g = refl
  same_signed t s same (a ∷ xs) [] f g = refl
  same_signed t s same (a ∷ xs) (b ∷ ys) f g =
      ap (λ x. x ∷ zip2 t (map (of_z w) xs) (map (of_z w) ys))
      (same a b (All-head (FitsSigned w) a xs f) (All-head (FitsSigned w) b ys g))
      ∙ ap (λ l. s a b ∷ l) (same_signed t s same xs ys
      (All-tail (FitsSigned w) a xs f) (All-tail (FitsSigned w) b ys g))

  same_test : (m n : ℕ) (a b : ℤ) → (m ≡ n → a ≡ b) → (a ≡ b → m ≡ n) → eqb m n ≡ int_eq a b
  same_test m n a b back forth = grind (arith, ints, nat_tests)

  bits_equal : (a b : ℤ) → FitsSigned w a → FitsSigned w b → eqb (of_z w a) (of_z w b) ≡ int_eq a b
  bits_equal a b f g =
      same_test (of_z w a) (of_z w b) a b
      (λ e. sym (to_z-of_z w a f) ∙ ap (to_z w) e ∙ to_z-of_z w b g) (ap (of_z w))

  bits_less : (a b : ℤ) → FitsSigned w a → FitsSigned w b
      → int_lt (to_z w (of_z w a)) (to_z w (of_z w b)) ≡ int_lt a b
  bits_less a b f g =
      ap (λ x. int_lt x (to_z w (of_z w b))) (to_z-of_z w a f) ∙ ap (int_lt a) (to_z-of_z w b g)

  pub signed_equal : (xs ys : List ℤ) → length xs ≡ 64 → length ys ≡ 64
      → All (FitsSigned w) xs → All (FitsSigned w) ys
      → digits (mask_l (map (top (hbits w)) (zip2 (λ x y. cond (eqb x y) (2 ^ width w - 1) 0)
      (map (of_z w) xs) (map (of_z w) ys))) % 2 ^ 64) 0 64 ≡ zip2 int_eq xs ys
  signed_equal xs ys lx ly f g =
      digits_compared w eqb (map (of_z w) xs) (map (of_z w) ys)
      (length-map xs (of_z w) ∙ lx) (length-map ys (of_z w) ∙ ly)
      ∙ same_signed eqb int_eq bits_equal xs ys f g

  pub signed_less : (xs ys : List ℤ) → length xs ≡ 64 → length ys ≡ 64
      → All (FitsSigned w) xs → All (FitsSigned w) ys
      → digits (mask_l (map (top (hbits w)) (zip2
      (λ x y. cond (int_lt (to_z w x) (to_z w y)) (2 ^ width w - 1) 0)
      (map (of_z w) xs) (map (of_z w) ys))) % 2 ^ 64) 0 64 ≡ zip2 int_lt xs ys
  signed_less xs ys lx ly f g =
      digits_compared w (λ x y. int_lt (to_z w x) (to_z w y)) (map (of_z w) xs) (map (of_z w) ys)
      (length-map xs (of_z w) ∙ lx) (length-map ys (of_z w) ∙ ly)
      ∙ same_signed (λ x y. int_lt (to_z w x) (to_z w y)) int_lt bits_less xs ys f g

-- ---- values compared one by one
pub compared_each : {X : Type 0} (t : X → X → Bool) (xs ys : List X) (d : X) (l : List Bool)
    → length xs ≡ 64 → length ys ≡ 64 → length l ≡ 64
    → ((k : ℕ) → k < 64 → get_or l k false ≡ t (get_or xs k d) (get_or ys k d)) → l ≡ zip2 t xs ys
compared_each t xs ys d l lx ly n each =
    same_lists _ _ (n ∙ sym lx ∙ sym (length-zip2 t xs ys (omega arith)))
    (λ k e h.
    get_or_default l k e false (omega arith) ∙ each k (omega arith)
    ∙ sym (get_or-zip2 t xs ys k d d e (omega arith) (omega arith)))

pub unsigned_each : (t : ℕ → ℕ → Bool) (s : ℤ → ℤ → Bool)
    → ((x y : ℕ) → t x y ≡ s (pos x) (pos y)) → (xs ys : List ℕ) (l : List Bool)
    → length xs ≡ 64 → length ys ≡ 64 → length l ≡ 64
    → ((k : ℕ) → k < 64 → get_or l k false ≡ t (get_or xs k 0) (get_or ys k 0))
    → l ≡ zip2 s (map pos xs) (map pos ys)
unsigned_each t s same xs ys l lx ly n each =
    compared_each t xs ys 0 l lx ly n each ∙ same_unsigned t s same xs ys
