-- Lists of truth values combined index by index, and writes of the results.
use Rattle.std.proofs.Common.{◌≡◌, ℕ, ◌+◌, ◌/◌, ◌^◌, ◌<◌, ◌≤◌, Bool, List, [], ◌∷◌, ◌++◌, length}
use Rattle.std.proofs.Common.{get_or, refl, sym, ap, subst, ◌∙◌, arith, zero-add}
use Rattle.std.proofs.lemmas.List.{same_lists}
use Rattle.std.proofs.lemmas.Simd.{get_or-zip2, length-zip2}
use Rattle.vb_bits.specs.Bits.{bits}
use Rattle.vb_bits.specs.Digits.{has_bit, digits}
use Rattle.vb_bits.specs.Operators.{merged_by}
use Rattle.vb_bits.specs.Writes.{Writes}
use Rattle.vb_bits.proofs.BitsLemmas.{length-bits, bits-add}
use Rattle.vb_bits.proofs.DigitsLemmas.{length-digits, at-digits, digits-add}
use Rattle.vb_bits.proofs.ShiftLemmas.{digits_shr}
use Rattle.vb_bits.proofs.WritesLemmas.{Writes_none, Writes-add, bits_outside}

-- the result has the length of the lists
pub length-merged_by : (f : Bool → Bool → Bool) (l r : List Bool)
    → length l ≡ length r → length (merged_by f l r) ≡ length l
unfolding merged_by
length-merged_by f l r e = length-zip2 f l r e

-- one of the values
pub at-merged_by : (f : Bool → Bool → Bool) (l r : List Bool) (i : ℕ) (c d e : Bool)
    → i < length l → i < length r → get_or (merged_by f l r) i e ≡ f (get_or l i c) (get_or r i d)
unfolding merged_by
at-merged_by f l r i c d e a b = get_or-zip2 f l r i c d e a b

-- lists appended to lists of the same length
pub merged_by-append : (f : Bool → Bool → Bool) (k l m r : List Bool)
    → length k ≡ length m → merged_by f (k ++ l) (m ++ r) ≡ merged_by f k m ++ merged_by f l r
unfolding merged_by
merged_by-append f [] l [] r e = refl
merged_by-append f [] l (y ∷ m) r e = absurd (omega arith)
merged_by-append f (x ∷ k) l [] r e = absurd (omega arith)
merged_by-append f (x ∷ k) l (y ∷ m) r e =
    ap (λ z. f x y ∷ z) (merged_by-append f k l m r (omega arith))

-- the right operand of two
pub merged_right : (l r : List Bool) → length l ≡ length r → merged_by (λ a b. b) l r ≡ r
unfolding merged_by
merged_right [] [] e = refl
merged_right [] (y ∷ r) e = absurd (omega arith)
merged_right (x ∷ l) [] e = absurd (omega arith)
merged_right (x ∷ l) (y ∷ r) e = ap (λ z. y ∷ z) (merged_right l r (omega arith))

-- numbers whose digits are combined
pub digits-merged_by : (f : Bool → Bool → Bool) (w a b n : ℕ)
    → n ≤ 64 → ((i : ℕ) → i < 64 → has_bit w i ≡ f (has_bit a i) (has_bit b i))
    → digits w 0 n ≡ merged_by f (digits a 0 n) (digits b 0 n)
digits-merged_by f w a b n small h =
    let one = length-digits a 0 n in
    let other = length-digits b 0 n in
    let whole : length (merged_by f (digits a 0 n) (digits b 0 n)) ≡ length (digits a 0 n) =
    length-merged_by f (digits a 0 n) (digits b 0 n) (omega arith) in
    same_lists _ _ (omega (arith, length-digits w 0 n)) (λ i d l.
    let inside : i < n = omega (arith, length-digits w 0 n) in
    at-digits w 0 n i d inside ∙ h (0 + i) (omega arith)
    ∙ sym (at-merged_by f (digits a 0 n) (digits b 0 n) i d d d (omega arith) (omega arith)
    ∙ ap (λ x. f x (get_or (digits b 0 n) i d)) (at-digits a 0 n i d inside)
    ∙ ap (f (has_bit a (0 + i))) (at-digits b 0 n i d inside)))

-- a window of n bits combined with another has n bits
pub length-merged_bits : (f : Bool → Bool → Bool) (b s : List ℕ) (o p n : ℕ)
    → length (merged_by f (bits b o n) (bits s p n)) ≡ n
length-merged_bits f b s o p n =
    length-merged_by f (bits b o n) (bits s p n) (length-bits b o n ∙ sym (length-bits s p n))
    ∙ length-bits b o n

-- no bits
pub Writes_merged_none : (f : Bool → Bool → Bool) (b s : List ℕ) (o p n : ℕ)
    → n ≡ 0 → Writes b b o (merged_by f (bits b o n) (bits s p n))
Writes_merged_none f b s o p n e =
    Writes_none b o (merged_by f (bits b o n) (bits s p n)) (length-merged_bits f b s o p n ∙ e)

-- two adjacent windows, combined with two lists
Writes-merged_lists : (f : Bool → Bool → Bool) (b c d : List ℕ) (o p m n k : ℕ) (r t : List Bool)
    → length r ≡ m → Writes b c o (merged_by f (bits b o m) r)
    → Writes c d p (merged_by f (bits c p n) t)
    → p ≡ o + m → k ≡ m + n → Writes b d o (merged_by f (bits b o k) (r ++ t))
Writes-merged_lists f b c d o p m n k r t size one two at whole =
    let same : length (bits b o m) ≡ length r = length-bits b o m ∙ sym size in
    let long : length (merged_by f (bits b o m) r) ≡ m =
    length-merged_by f (bits b o m) r same ∙ length-bits b o m in
    let left : bits c p n ≡ bits b (o + m) n =
    bits_outside b c o p n (merged_by f (bits b o m) r) one (omega arith)
    ∙ ap (λ x. bits b x n) at in
    subst (Writes b d o)
    (ap (λ x. merged_by f (bits b o m) r ++ merged_by f x t) left
    ∙ sym (merged_by-append f (bits b o m) (bits b (o + m) n) r t same)
    ∙ ap (λ x. merged_by f x (r ++ t)) (sym (bits-add b o m n) ∙ ap (bits b o) (sym whole)))
    (Writes-add b c d o p (merged_by f (bits b o m) r) (merged_by f (bits c p n) t) (omega arith)
    one two)

-- two adjacent windows, combined with two other windows
pub Writes-merged_by : (f : Bool → Bool → Bool) (b c d s : List ℕ) (o p u v m n k : ℕ)
    → Writes b c o (merged_by f (bits b o m) (bits s u m))
    → Writes c d p (merged_by f (bits c p n) (bits s v n))
    → p ≡ o + m → v ≡ u + m → k ≡ m + n → Writes b d o (merged_by f (bits b o k) (bits s u k))
Writes-merged_by f b c d s o p u v m n k one two at from whole =
    subst (λ l. Writes b d o (merged_by f (bits b o k) l))
    (ap (λ x. bits s u m ++ bits s x n) from
    ∙ sym (bits-add s u m n) ∙ ap (bits s u) (sym whole))
    (Writes-merged_lists f b c d o p m n k (bits s u m) (bits s v n) (length-bits s u m) one two at
    whole)

-- two adjacent windows, combined with the lowest digits of a number and the digits after them
pub Writes-merged_digits : (f : Bool → Bool → Bool) (b c d : List ℕ) (o p m n k w : ℕ)
    → Writes b c o (merged_by f (bits b o m) (digits w 0 m))
    → Writes c d p (merged_by f (bits c p n) (digits (w / 2 ^ m) 0 n))
    → p ≡ o + m → k ≡ m + n → Writes b d o (merged_by f (bits b o k) (digits w 0 k))
Writes-merged_digits f b c d o p m n k w one two at whole =
    subst (λ l. Writes b d o (merged_by f (bits b o k) l))
    (ap (λ l. digits w 0 m ++ l) (digits_shr w m n ∙ ap (λ x. digits w x n) (sym (zero-add m)))
    ∙ sym (digits-add w 0 m n) ∙ ap (digits w 0) (sym whole))
    (Writes-merged_lists f b c d o p m n k (digits w 0 m) (digits (w / 2 ^ m) 0 n)
    (length-digits w 0 m) one two at whole)

-- a number whose digits are a window, and the combined number written to that window
pub Writes_merged_number : (f : Bool → Bool → Bool) (b c : List ℕ) (o n w x y : ℕ) → n ≤ 64
    → digits x 0 n ≡ bits b o n
    → ((i : ℕ) → i < 64 → has_bit w i ≡ f (has_bit x i) (has_bit y i))
    → Writes b c o (digits w 0 n) → Writes b c o (merged_by f (bits b o n) (digits y 0 n))
Writes_merged_number f b c o n w x y small left h written =
    subst (Writes b c o) (digits-merged_by f w x y n small h
    ∙ ap (λ z. merged_by f z (digits y 0 n)) left) written

-- numbers whose digits are windows, and the combined number written to the first window
pub Writes_merged_digits : (f : Bool → Bool → Bool) (b c s : List ℕ) (o p q n w x y : ℕ) → n ≤ 64
    → digits x 0 n ≡ bits b p n → digits y 0 n ≡ bits s q n
    → ((i : ℕ) → i < 64 → has_bit w i ≡ f (has_bit x i) (has_bit y i))
    → Writes b c o (digits w 0 n) → o ≡ p → Writes b c p (merged_by f (bits b p n) (bits s q n))
Writes_merged_digits f b c s o p q n w x y small left right h written at =
    subst (λ z. Writes b c z (merged_by f (bits b p n) (bits s q n))) at
    (subst (Writes b c o) (digits-merged_by f w x y n small h
    ∙ ap (λ z. merged_by f z (digits y 0 n)) left ∙ ap (merged_by f (bits b p n)) right) written)

-- ---- two windows combined into a third one
-- two numbers whose digits are windows, and the combined number written to a third window
pub Writes_into_digits : (f : Bool → Bool → Bool) (b c s t : List ℕ) (o u v n w x y : ℕ) → n ≤ 64
    → digits x 0 n ≡ bits s u n → digits y 0 n ≡ bits t v n
    → ((i : ℕ) → i < 64 → has_bit w i ≡ f (has_bit x i) (has_bit y i))
    → Writes b c o (digits w 0 n) → Writes b c o (merged_by f (bits s u n) (bits t v n))
Writes_into_digits f b c s t o u v n w x y small left right h written =
    subst (Writes b c o) (digits-merged_by f w x y n small h
    ∙ ap (λ z. merged_by f z (digits y 0 n)) left ∙ ap (merged_by f (bits s u n)) right) written

-- the right operand is written
pub Writes_right : (b c : List ℕ) (o n w : ℕ)
    → Writes b c o (merged_by (λ x y. y) (bits b o n) (digits w 0 n)) → Writes b c o (digits w 0 n)
Writes_right b c o n w written =
    subst (Writes b c o) (merged_right (bits b o n) (digits w 0 n)
    (length-bits b o n ∙ sym (length-digits w 0 n))) written

-- two adjacent windows
pub Writes-into : (f : Bool → Bool → Bool) (b c d s t : List ℕ) (o p u q v r m n k : ℕ)
    → Writes b c o (merged_by f (bits s u m) (bits t v m))
    → Writes c d p (merged_by f (bits s q n) (bits t r n))
    → p ≡ o + m → q ≡ u + m → r ≡ v + m → k ≡ m + n
    → Writes b d o (merged_by f (bits s u k) (bits t v k))
Writes-into f b c d s t o p u q v r m n k one two at first second whole =
    let long = length-merged_bits f s t u v m in
    subst (Writes b d o)
    (ap (λ x. merged_by f (bits s u m) (bits t v m) ++ merged_by f (bits s x n) (bits t r n)) first
    ∙ ap (λ x. merged_by f (bits s u m) (bits t v m) ++ merged_by f (bits s (u + m) n) (bits t x n))
    second
    ∙ sym (merged_by-append f (bits s u m) (bits s (u + m) n) (bits t v m) (bits t (v + m) n)
    (length-bits s u m ∙ sym (length-bits t v m)))
    ∙ ap (λ x. merged_by f x (bits t v m ++ bits t (v + m) n))
    (sym (bits-add s u m n) ∙ ap (bits s u) (sym whole))
    ∙ ap (merged_by f (bits s u k)) (sym (bits-add t v m n) ∙ ap (bits t v) (sym whole)))
    (Writes-add b c d o p (merged_by f (bits s u m) (bits t v m))
    (merged_by f (bits s q n) (bits t r n)) (omega arith) one two)

-- no bits
pub Writes_into_none : (f : Bool → Bool → Bool) (b s t : List ℕ) (o u v n : ℕ)
    → n ≡ 0 → Writes b b o (merged_by f (bits s u n) (bits t v n))
Writes_into_none f b s t o u v n e =
    Writes_none b o (merged_by f (bits s u n) (bits t v n)) (length-merged_bits f s t u v n ∙ e)
