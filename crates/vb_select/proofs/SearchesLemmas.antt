-- Searches that go from list to list.
use Rattle.std.proofs.Common.{◌≡◌, ℕ, ◌+◌, ◌-◌, ◌^◌, ◌<◌, ◌≤◌, Bool, false, List, ◌++◌, length}
use Rattle.std.proofs.Common.{Option, None, Some, IsSome, refl, sym, ap, ◌∙◌, arith, subst}
use Rattle.std.proofs.Common.{⊎_elim, pow_mono}
use Rattle.std.below.core.specs.declared.ops.ControlFlow.{ControlFlow}
use Rattle.std.below.core.specs.declared.ops.ControlFlow.TheVariants.{Continue, Break}
use Rattle.std.specs.ControlFlow.{break_value}
use Rattle.std.proofs.lemmas.List.{get_or_append_left, take-append-le}
use Rattle.std.proofs.Math.Seq.{take-append_seam}
use Rattle.std.proofs.lemmas.Bool.{cases_lt}
use Rattle.vb_bits.specs.Bits.{bits, count, Selects}
use Rattle.vb_bits.specs.Digits.{digits}
use Rattle.vb_count.specs.Hits.{hits}
use Rattle.vb_select.specs.Searches.{Searched}
use Rattle.vb_bits.proofs.BitsLemmas.{length-bits, count-take-lt, count-take-mono}
use Rattle.vb_bits.proofs.DigitsLemmas.{digits-add, count-digits_below}
use Rattle.vb_bits.proofs.SelectsLemmas.{Selects-append_left, Selects-append_right}
use Rattle.vb_count.proofs.HitsLemmas.{length-hits, hits-bits-add}

-- ---- an index in two lists, one after the other
-- a rank below the count of the first list is found there
Selects-left : (k l : List Bool) (n p : ℕ)
    → n < count k → Selects (k ++ l) n (Some p) → Selects k n (Some p)
Selects-left k l n p low s =
    let inside : p < length k = ⊎_elim (λ h. h)
    (λ (past : length k ≤ p). absurd (omega (
      arith,
      s.2,
      count-take-mono (k ++ l) (length k) p past,
      ap count (take-append_seam k l),
    )))
    (cases_lt p (length k)) in (
      inside,
      sym (get_or_append_left k l false p inside) ∙ s.1,
      sym (ap count (take-append-le p k l (omega arith))) ∙ s.2,
    )

-- ---- searches of windows
-- an index that is found is in the window
pub Searched_inside : (v : Bool) (b : List ℕ) (o z n p : ℕ)
    → Searched (hits v (bits b o z)) n (Break p) → p < z
Searched_inside v b o z n p s =
    omega (arith, s.0, length-hits v (bits b o z), length-bits b o z)

-- found in a front of the window
pub Searched_longer : (v : Bool) (b : List ℕ) (o m z n p : ℕ)
    → m ≤ z → Searched (hits v (bits b o m)) n (Break p)
    → Searched (hits v (bits b o z)) n (Break p)
Searched_longer v b o m z n p within s =
    let e : m + (z - m) ≡ z = omega arith in
    let t =
    Selects-append_left (hits v (bits b o m)) (hits v (bits b (o + m) (z - m))) n p s in
    subst (λ x. Searched (hits v (bits b o x)) n (Break p)) e
    (subst (λ l. Searched l n (Break p)) (sym (hits-bits-add v b o m (z - m))) t)

-- the result in a front of the window is that in the window, if the front holds the sought bit or
-- is the whole window
pub Searched_front : (v : Bool) (b : List ℕ) (o m z n : ℕ) (r : ControlFlow ℕ ℕ)
    → m ≤ z → (m < z → n < count (hits v (bits b o m)))
    → Searched (hits v (bits b o m)) n r → Searched (hits v (bits b o z)) n r
Searched_front v b o m z n (Break p) within held s = Searched_longer v b o m z n p within s
Searched_front v b o m z n (Continue left) within held s =
    let whole : m ≡ z = ⊎_elim (λ (short : m < z). absurd (omega (arith, held short, s)))
    (λ (past : z ≤ m). omega arith) (cases_lt m z) in
    subst (λ x. Searched (hits v (bits b o x)) n (Continue left)) whole s

-- a window whose front was passed is searched in the bits after it
pub Searched_after : (v : Bool) (b : List ℕ) (o m k n left p : ℕ)
    → n ≡ left + count (hits v (bits b o m)) → Searched (hits v (bits b (o + m) k)) left
    (Break p) → Searched (hits v (bits b o (m + k))) n (Break (m + p))
Searched_after v b o m k n left p passed s =
    let long : length (hits v (bits b o m)) ≡ m =
    length-hits v (bits b o m) ∙ length-bits b o m in
    let t = Selects-append_right (hits v (bits b o m))
    (hits v (bits b (o + m) k)) n left p passed s in
    subst (λ x. Searched (hits v (bits b o (m + k))) n (Break (x + p))) long
    (subst (λ l. Searched l n (Break (length (hits v (bits b o m)) + p)))
    (sym (hits-bits-add v b o m k)) t)

-- the search of the part from index a to index y of an unchanged source continues the search of the
-- window
pub Searched_on : (v : Bool) (b c : List ℕ) (o a y z n left : ℕ) (r : ControlFlow ℕ ℕ)
    → c ≡ b → y ≡ z → n ≡ left + count (hits v (bits b o a))
    → Searched (hits v (bits c o y)) (left + count (hits v (bits c o a))) r
    → Searched (hits v (bits b o z)) n r
Searched_on v b c o a y z n left r same end passed s =
    let here =
    subst (λ x. Searched (hits v (bits x o y)) (left + count (hits v (bits x o a))) r)
    same s in
    subst (λ x. Searched (hits v (bits b o x)) n r) end
    (subst (λ m. Searched (hits v (bits b o y)) m r) (sym passed) here)

-- the index that a whole search returns
pub Searched-Selects : (l : List Bool) (n : ℕ) (r : ControlFlow ℕ ℕ)
    → Searched l n r → Selects l n (break_value r)
Searched-Selects l n (Break p) s = s
Searched-Selects l n (Continue left) s = omega (arith, s)

-- below the count there is an index
pub IsSome-Selects : (l : List Bool) (n : ℕ) (o : Option ℕ) → n < count l → Selects l n o → IsSome o
IsSome-Selects l n None low s = absurd (omega arith)
IsSome-Selects l n (Some p) low s = refl

-- ---- searches of words
-- a digit above those of a number is no result
pub Selects-digits_below : (w k m n p : ℕ)
    → k ≤ m → w < 2 ^ k → Selects (digits w 0 m) n (Some p) → Selects (digits w 0 k) n (Some p)
Selects-digits_below w k m n p within small s =
    let e : k + (m - k) ≡ m = omega arith in
    let cut : digits w 0 m ≡ digits w 0 k ++ digits w (0 + k) (m - k) =
    ap (digits w 0) (sym e) ∙ digits-add w 0 k (m - k) in
    let wide : 2 ^ k ≤ 2 ^ m = pow_mono within in
    let same : count (digits w 0 m) ≡ count (digits w 0 k) =
    count-digits_below w m (omega (arith, wide)) ∙ sym (count-digits_below w k small) in
    let low = count-take-lt (digits w 0 m) p s.0 s.1 in
    Selects-left (digits w 0 k) (digits w (0 + k) (m - k)) n p (omega (arith, low, s.2, same))
    (subst (λ l. Selects l n (Some p)) cut s)
