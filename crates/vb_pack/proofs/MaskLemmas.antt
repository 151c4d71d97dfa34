-- The number whose digits are a list of truth values, by a multiply and by lanes.
use Rattle.std.proofs.Common.{◌≡◌, ℕ, zero, suc, ◌+◌, ◌*◌, ◌/◌, ◌%◌, ◌^◌, ◌<◌, Bool, true, false}
use Rattle.std.proofs.Common.{cond, ◌&&◌, List, [], ◌∷◌, ◌++◌, length, get_or, take, map, eqb, refl}
use Rattle.std.proofs.Common.{sym, ap, ◌∙◌, subst, arith, pow-suc, zero-add}
use lib.Lanes.{mask_l, chunk}
use mir.Val.{bool_byte}
use Rattle.std.specs.Int.Bits.{bit_or}
use Rattle.std.proofs.Math.Seq.{take-add}
use Rattle.std.proofs.lemmas.List.{length-take-le, length-map, get_or-map, get_or_default}
use Rattle.std.proofs.lemmas.List.{same_lists}
use Rattle.std.proofs.lemmas.Nat.{or_comm, or_shifted, shl_whole}
use Rattle.std.proofs.lemmas.Simd.{bit_mask_l, mask_l-lt, length-chunk}
use Rattle.vb_bits.specs.Digits.{has_bit, digits}
use Rattle.vb_bits.proofs.DigitsLemmas.{length-digits, at-digits}

-- its digits are the list
pub digits-mask_l : (l : List Bool) (n : ℕ) → length l ≡ n → digits (mask_l l) 0 n ≡ l
digits-mask_l l n e =
    same_lists _ _ (length-digits (mask_l l) 0 n ∙ sym e)
    (λ i d h.
    let here : i < n = omega (arith, length-digits (mask_l l) 0 n) in
    at-digits (mask_l l) 0 n i d here
    ∙ ap (has_bit (mask_l l)) (zero-add i) ∙ ap (λ x. eqb x 1) (bit_mask_l l i)
    ∙ told (get_or l i false) ∙ get_or_default l i false d (omega arith))
  where
    told : (b : Bool) → eqb (cond b 1 0) 1 ≡ b
    told true = refl
    told false = refl

-- the number of two lists, one after the other
pub mask_l-append : (k l : List Bool) → mask_l (k ++ l) ≡ mask_l k + 2 ^ length k * mask_l l
mask_l-append [] l = omega arith
mask_l-append (b ∷ k) l =
    let rest = mask_l-append k l in
    let twice : 2 ^ suc (length k) ≡ 2 ^ length k * 2 = pow-suc 2 (length k) in
    rw (twice, rest) (omega arith)

-- ---- the multiply
-- a test of all lists of n truth values
abbrev pub all_lists : ℕ → (List Bool → Bool) → Bool
all_lists zero t = t []
all_lists (suc n) t = all_lists n (λ l. t (true ∷ l)) && all_lists n (λ l. t (false ∷ l))

-- if all lists pass a test, each list does
pub all_lists-each : (n : ℕ) (t : List Bool → Bool) → all_lists n t ≡ true → (l : List Bool)
    → length l ≡ n → t l ≡ true
all_lists-each zero t all [] e = all
all_lists-each zero t all (b ∷ l) e = absurd (omega arith)
all_lists-each (suc n) t all [] e = absurd (omega arith)
all_lists-each (suc n) t all (true ∷ l) e =
    all_lists-each n (λ k. t (true ∷ k)) (left _ _ all) l (omega arith)
  where
    left : (b c : Bool) → b && c ≡ true → b ≡ true
    left true c both = refl
    left false c both = both
all_lists-each (suc n) t all (false ∷ l) e =
    all_lists-each n (λ k. t (false ∷ k)) (right _ _ all) l (omega arith)
  where
    right : (b c : Bool) → b && c ≡ true → c ≡ true
    right true c both = both
    right false c both = cc

-- the byte of truth value i
abbrev pub byte_of : List Bool → ℕ → ℕ
byte_of l i = bool_byte (get_or l i false)

-- whether the multiplication gathers these eight values
abbrev pub gathers : List Bool → Bool
gathers l =
    eqb
    ((byte_of l 0 + byte_of l 1 * 256 ^ 1 + byte_of l 2 * 256 ^ 2 + byte_of l
    3 * 256 ^ 3 + byte_of l 4 * 256 ^ 4 + byte_of l 5 * 256 ^ 5 + byte_of l
    6 * 256 ^ 6 + byte_of l 7 * 256 ^ 7) * 0x0102_0408_1020_4080 % 2 ^ 64 / 2 ^ 56)
    (mask_l l)

-- it gathers each of the 256 lists
pub all_gathered : all_lists 8 gathers ≡ true
all_gathered = refl

-- the digits of eight more values
pub mask_l-more : (l : List Bool) (k : ℕ) → length l ≡ 64 → k < 8 → bit_or (mask_l (take (8 * k) l))
    (mask_l (chunk (8 * k) 8 l) * 2 ^ (8 * k) % 2 ^ 64) ≡ mask_l (take (8 * (k + 1)) l)
mask_l-more l k long h =
    let front : List Bool = take (8 * k) l in let eight : List Bool = chunk (8 * k) 8 l in
    let n : length front ≡ 8 * k = length-take-le (8 * k) l (omega arith) in
    let m : length eight ≡ 8 = length-chunk (8 * k) 8 l (omega arith) in
    let low : mask_l front < 2 ^ (8 * k) = subst (λ x. mask_l front < 2 ^ x) n (mask_l-lt front) in
    let small : mask_l eight < 2 ^ 8 = subst (λ x. mask_l eight < 2 ^ x) m (mask_l-lt eight) in
    let moved : mask_l eight * 2 ^ (8 * k) % 2 ^ 64 ≡ mask_l eight * 2 ^ (8 * k) =
    shl_whole (mask_l eight) 8 (8 * k) 64 small (omega arith) in
    let next : 8 * (k + 1) ≡ 8 * k + 8 = omega arith in
    let joined : mask_l (front ++ eight) ≡ mask_l front + 2 ^ (8 * k) * mask_l eight =
    mask_l-append front eight ∙ ap (λ x. mask_l front + 2 ^ x * mask_l eight) n in
    let either : bit_or
    (mask_l front) (mask_l eight * 2 ^ (8 * k)) ≡ mask_l eight * 2 ^ (8 * k) + mask_l front =
    or_comm (mask_l front) (mask_l eight * 2 ^ (8 * k))
    ∙ or_shifted (mask_l eight) (8 * k) (mask_l front) low in
    ap (bit_or (mask_l front)) moved ∙ either
    ∙ (let turned : mask_l eight * 2 ^ (8 * k) + mask_l front ≡ mask_l front
    + 2 ^ (8 * k) * mask_l eight = omega arith in turned)
    ∙ sym joined ∙ ap mask_l (sym (take-add (8 * k) 8 l)) ∙ ap (λ x. mask_l (take x l)) (sym next)

-- ---- lanes
-- truth values written as bytes of 1 and 0, and compared with 1
pub compared_back : (bytes : List ℕ) (l : List Bool) → length bytes ≡ 64 → length l ≡ 64 → ((i : ℕ)
    → i < 64 → get_or bytes i 0 ≡ bool_byte (get_or l i false)) → map (λ x. eqb x 1) bytes ≡ l
compared_back bytes l m n same =
    same_lists _ _ (length-map bytes (λ x. eqb x 1) ∙ m ∙ sym n)
    (λ i d h.
    let inside : i < 64 = omega (arith, length-map bytes (λ x. eqb x 1)) in
    get_or-map (λ x. eqb x 1) bytes i 0 d (omega arith)
    ∙ ap (λ x. eqb x 1) (same i inside) ∙ told (get_or l i false)
    ∙ get_or_default l i false d (omega arith))
  where
    told : (b : Bool) → eqb (bool_byte b) 1 ≡ b
    told true = refl
    told false = refl
