-- Select in joined lists and among the digits of a word.
use Rattle.std.proofs.Common.{◌≡◌, ℕ, zero, suc, ◌+◌, ◌-◌, ◌*◌, ◌/◌, ◌%◌, ◌^◌, ◌<◌, ◌≤◌, Bool, true}
use Rattle.std.proofs.Common.{false, eqb, List, [], ◌∷◌, ◌++◌, length, get_or, map, take}
use Rattle.std.proofs.Common.{Some, refl, sym, ap, ◌∙◌, arith, subst, zero-add}
use Rattle.std.specs.List.{range_with_len}
use Rattle.std.specs.Prelude.{bit_and, count_ones}
use Rattle.std.specs.Int.{bit_at}
use Rattle.std.proofs.lemmas.Nat.{shr-shr, shr_split, and_mask, one_shl, mod_below, pow_pos}
use Rattle.std.proofs.lemmas.Nat.Bits.{bit_at_cat_low}
use Rattle.std.proofs.lemmas.List.{get_or-map, length-append, get_or_append_left}
use Rattle.std.proofs.lemmas.List.{get_or-append-add, take-append-le}
use Rattle.std.proofs.Math.Seq.{take-append-add}
use Rattle.std.proofs.lemmas.List.FromFn.{get_or-map-range_with_len}
use Rattle.vb_bits.specs.declared.select.TheConstants.{PLACES}
use Rattle.vb_bits.specs.Bits.{count, places, Selects}
use Rattle.vb_bits.specs.Digits.{has_bit, digits}
use Rattle.vb_bits.proofs.BitsLemmas.{count-cons, count-le, count-append}
use Rattle.vb_bits.proofs.PlacesLemmas.{places_cons, length-places}
use Rattle.vb_bits.proofs.DigitsLemmas.{length-digits, digits-add, same_digits, count-digits_below}

-- found in the first
pub Selects-append_left : (k l : List Bool) (n p : ℕ)
    → Selects k n (Some p) → Selects (k ++ l) n (Some p)
Selects-append_left k l n p s = (
  omega (arith, s.0, length-append k l),
  get_or_append_left k l false p s.0 ∙ s.1,
  ap count (take-append-le p k l (omega (arith, s.0))) ∙ s.2,
)

-- found in the second
pub Selects-append_right : (k l : List Bool) (n left p : ℕ)
    → n ≡ left + count k → Selects l left (Some p) → Selects (k ++ l) n (Some (length k + p))
Selects-append_right k l n left p passed s = (
  omega (arith, s.0, length-append k l),
  get_or-append-add k l p false ∙ s.1,
  ap count (take-append-add k l p) ∙ count-append k (take p l) ∙ omega (arith, s.2),
)

-- found among some of the z lowest digits of a word
pub Selects-digits : (w z a k n left p : ℕ) → a + k ≤ z → n ≡ left + count (digits w 0 a)
    → Selects (digits w a k) left (Some p) → Selects (digits w 0 z) n (Some (a + p))
Selects-digits w z a k n left p within passed found =
    let all : a + k + (z - (a + k)) ≡ z = omega arith in
    let cut : digits w 0 a ++ digits w a k ≡ digits w 0 (a + k) =
    ap (λ x. digits w 0 a ++ digits w x k) (sym (zero-add a)) ∙ sym (digits-add w 0 a k) in
    let front = Selects-append_right (digits w 0 a) (digits w a k) n left p passed found in
    let whole = Selects-append_left (digits w 0 (a + k)) (digits w (0 + (a + k)) (z - (a + k))) n
    (length (digits w 0 a) + p)
    (subst (λ l. Selects l n (Some (length (digits w 0 a) + p))) cut front) in
    subst (λ l. Selects l n (Some (a + p))) (sym (digits-add w 0 (a + k) (z - (a + k)))
    ∙ ap (digits w 0) all) (subst (λ m. Selects (digits w 0 (a + k) ++ digits w
    (0 + (a + k)) (z - (a + k))) n (Some (m + p))) (length-digits w 0 a) whole)

-- a digit that is found is among the k digits searched
pub Selects-digits_inside : (w a k n p : ℕ) → Selects (digits w a k) n (Some p) → p < k
Selects-digits_inside w a k n p s = omega (arith, s.0, length-digits w a k)

-- the n-th of the indices is the one that n selects
pub Selects-places : (l : List Bool) (n : ℕ) → n < count l
    → Selects l n (Some (get_or (places l) n 0))
Selects-places [] n h = absurd (omega arith)
Selects-places (true ∷ l) zero h =
    let first : get_or (places (true ∷ l)) 0 0 ≡ 0 =
    ap (λ ps. get_or ps 0 0) (places_cons true l) in
    subst (λ p. Selects (true ∷ l) 0 (Some p)) (sym first) (omega arith, refl, refl)
Selects-places (true ∷ l) (suc n) h =
    let low : n < count l = omega (arith, count-cons true l) in
    let next : get_or (places (true ∷ l)) (suc n) 0 ≡ 1 + get_or (places l) n 0 =
    ap (λ ps. get_or ps (suc n) 0) (places_cons true l)
    ∙ get_or-map (λ i. 1 + i) (places l) n 0 0 (omega (arith, length-places l)) in
    subst (λ p. Selects (true ∷ l) (suc n) (Some p)) (sym next) (Selects-append_right
    (true ∷ []) l (suc n) n (get_or (places l) n 0) (omega arith) (Selects-places l n low))
Selects-places (false ∷ l) n h =
    let low : n < count l = omega (arith, count-cons false l) in
    let next : get_or (places (false ∷ l)) n 0 ≡ 1 + get_or (places l) n 0 =
    ap (λ ps. get_or ps n 0) (places_cons false l)
    ∙ get_or-map (λ i. 1 + i) (places l) n 0 0 (omega (arith, length-places l)) in
    subst (λ p. Selects (false ∷ l) n (Some p)) (sym next) (Selects-append_right
    (false ∷ []) l n n (get_or (places l) n 0) (omega arith) (Selects-places l n low))

-- row x has eight entries: entry n is the index of the n-th set digit of x, or 0 if x has no such
-- digit
places_table : map (λ i. get_or (places (digits (i / 8) 0 8)) (i % 8) 0) (range_with_len 0 2048)
    ≡ PLACES
unfolding places digits
places_table = refl

-- the table has the index that n selects among eight digits, which are those of x
pub Selects-table : (x w n : ℕ) → x < 256 → digits x 0 8 ≡ digits w 0 8
    → n < count (digits w 0 8) → Selects (digits w 0 8) n (Some (get_or PLACES (8 * x + n) 0))
Selects-table x w n small same h =
    let few : n < 8 = omega (arith, h, count-le (digits w 0 8), length-digits w 0 8) in
    let row : (8 * x + n) / 8 ≡ x = omega arith in
    let column : (8 * x + n) % 8 ≡ n = omega arith in
    let entry : get_or PLACES (8 * x + n) 0 ≡ get_or (places (digits x 0 8)) n 0 =
    ap (λ t. get_or t (8 * x + n) 0) (sym places_table)
    ∙ get_or-map-range_with_len (λ i. get_or (places (digits (i / 8) 0 8)) (i % 8) 0) 0 2048
    (8 * x + n) (8 * x + n) 0 (omega arith) (zero-add (8 * x + n))
    ∙ ap (λ q. get_or (places (digits q 0 8)) ((8 * x + n) % 8) 0) row
    ∙ ap (λ r. get_or (places (digits x 0 8)) r 0) column in
    subst (λ l. Selects l n (Some (get_or PLACES (8 * x + n) 0))) same
    (subst (λ p. Selects (digits x 0 8) n (Some p))
    (sym entry) (Selects-places (digits x 0 8) n (omega (arith, ap count same))))

-- the digits of a number from index a on
pub digits_shifted : (w a k : ℕ) → digits (w / 2 ^ a) 0 k ≡ digits w a k
digits_shifted w a k = same_digits (w / 2 ^ a) w 0 a k
    (λ i h. ap (has_bit (w / 2 ^ a)) (zero-add i) ∙ ap (λ z. eqb (z % 2) 1) (shr-shr w a i))

-- the lowest digits of a number, with the others masked
low_masked : (w k : ℕ) → k < 64 → bit_and w (1 * 2 ^ k % 2 ^ 64 - 1) ≡ w % 2 ^ k
low_masked w k h = ap (λ m. bit_and w (m - 1)) (one_shl k 64 h) ∙ and_mask w k

pub digits_low : (w k : ℕ) → k < 64 → digits (bit_and w (1 * 2 ^ k % 2 ^ 64 - 1)) 0 k ≡ digits w 0 k
digits_low w k h =
    ap (λ x. digits x 0 k) (low_masked w k h)
    ∙ same_digits (w % 2 ^ k) w 0 0 k (λ i l.
    ap (has_bit (w % 2 ^ k)) (zero-add i) ∙ ap (λ z. eqb z 1)
    (sym (bit_at_cat_low (w / 2 ^ k) k (w % 2 ^ k) i l) ∙ ap (λ z. bit_at z i) (shr_split w k))
    ∙ sym (ap (has_bit w) (zero-add i)))

-- the count of these digits
pub ones_low : (w k : ℕ)
    → k < 64 → count_ones (bit_and w (1 * 2 ^ k % 2 ^ 64 - 1)) ≡ count (digits w 0 k)
ones_low w k h =
    let below : bit_and w (1 * 2 ^ k % 2 ^ 64 - 1) < 2 ^ k =
    omega (arith, low_masked w k h, mod_below w (2 ^ k) (pow_pos k)) in
    sym (count-digits_below (bit_and w (1 * 2 ^ k % 2 ^ 64 - 1)) k below)
    ∙ ap count (digits_low w k h)
