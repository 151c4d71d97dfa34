-- Units of bytes read alongside each other, and the looks at them.
use Rattle.std.proofs.Common.{◌≡◌, ℕ, ◌+◌, ◌-◌, ◌*◌, ◌/◌, ◌%◌, ◌<◌, ◌≤◌, Bool, false, List, []}
use Rattle.std.proofs.Common.{◌∷◌, get_or, min, inl, inr, refl, sym, subst, ap}
use Rattle.std.proofs.Common.{◌∙◌, arith, zero-add}
use Rattle.std.proofs.lemmas.Bool.{cases_lt}
use Rattle.vb_bits.specs.Bits.{bit_of, bits, count}
use Rattle.vb_bits.specs.Operators.{merged_by}
use Rattle.vb_count.specs.Looks.{looks, CountedBytes, LooksExactly}
use Rattle.vb_count.proofs.UnitsLemmas.{units_none, units_more}
use Rattle.vb_pair.specs.Beside.{IsHeld, bits_held, part_looks, looks_beside}
use Rattle.vb_pair.specs.Merged.{merged_ones}
use Rattle.vb_bits.proofs.BitsLemmas.{same_bits, at-bits}
use Rattle.vb_bits.proofs.BytesLemmas.{bits_of_read_byte}
use Rattle.vb_pair.proofs.MergedLemmas.{merged_ones-le, merged_ones_none, merged_ones_split}

-- ---- looks
-- a sum of looks whose head and tail parts are at most those of another sum, and n more looks
parts_le : (a b c d e u v w n : ℕ) → a ≤ n → b ≤ d → c ≤ e
    → a + b + u + v + w + c ≤ d + u + v + w + e + n
parts_le a b c d e u v w n first head tail = omega arith

-- at most one more look than at the other window, and no look for no bits
pub looks_beside-le : (o p n : ℕ) → looks_beside o p n ≤ looks o n + min n 1
looks_beside-le o p n =
    let h : ℕ = min n ((8 - o % 8) % 8) in
    let m : ℕ = (n - h) / 8 in
    let t : ℕ = (n - h) % 8 in
    parts_le (min (min n (p % 8)) 1) (part_looks p h) (part_looks (p + h + 8 * m) t) (min h 1)
    (min t 1) (m / 64) (m % 64 / 8) (m % 8) (min n 1) (omega arith) (omega arith) (omega arith)

-- the bound
pub looks_beside-most : (o p n : ℕ) → looks_beside o p n ≤ n / 512 + 16
looks_beside-most o p n = omega arith

-- the bound for few bits
pub looks_beside-short : (o p n : ℕ) → n ≤ 512 → looks_beside o p n ≤ 16
looks_beside-short o p n few = omega arith

-- ---- windows that were read
-- in other sources with the same bytes
pub merged_ones_same : (f : Bool → Bool → Bool) (a b c d : List ℕ) (o p n : ℕ)
    → c ≡ a → d ≡ b → merged_ones f c o d p n ≡ merged_ones f a o b p n
merged_ones_same f a b c d o p n left right =
    ap (λ x. merged_ones f x o d p n) left ∙ ap (λ x. merged_ones f a o x p n) right

-- in windows with the same bits
merged_ones_windows : (f : Bool → Bool → Bool) (a b c d : List ℕ) (o p q r n : ℕ)
    → bits a o n ≡ bits c q n → bits b p n ≡ bits d r n
    → merged_ones f a o b p n ≡ merged_ones f c q d r n
merged_ones_windows f a b c d o p q r n left right =
    ap count (ap (λ l. merged_by f l (bits b p n)) left ∙ ap (merged_by f (bits c q n)) right)

-- a part of k bytes that were read from byte a on
part_of_read : (b xs : List ℕ) (a k s n o : ℕ) → bits xs 0 (8 * k) ≡ bits b (8 * a) (8 * k)
    → o ≡ 8 * a + s → s + n ≤ 8 * k → bits xs s n ≡ bits b o n
part_of_read b xs a k s n o whole place within =
    same_bits xs b s o n (λ i h.
    let inside : s + i < 8 * k = omega arith in
    let there : 8 * a + (s + i) ≡ o + i = omega arith in
    ap (bit_of xs) (sym (zero-add (s + i))) ∙ sym (at-bits xs 0 (8 * k) (s + i) false inside)
    ∙ ap (λ l. get_or l (s + i) false) whole ∙ at-bits b (8 * a) (8 * k) (s + i) false inside
    ∙ ap (bit_of b) there)

-- in windows with the same bits, if they have any
merged_ones_if_any : (f : Bool → Bool → Bool) (a b c d : List ℕ) (o p q r n : ℕ)
    → (0 < n → bits a o n ≡ bits c q n) → (0 < n → bits b p n ≡ bits d r n)
    → merged_ones f a o b p n ≡ merged_ones f c q d r n
merged_ones_if_any f a b c d o p q r n left right = elim (cases_lt 0 n) [
  | inl some ↦ merged_ones_windows f a b c d o p q r n (left some) (right some)
  | inr past ↦
      let none : n ≡ 0 = omega arith in
      ap (λ z. merged_ones f a o b p z) none ∙ merged_ones_none f a b o p
      ∙ sym (ap (λ z. merged_ones f c q d r z) none ∙ merged_ones_none f c d q r)
]

-- n bits of a unit of k bytes, combined with n bits of the other window: those of the held byte y,
-- and then those of the k bytes read from byte j on
pub merged_ones_of_unit : (f : Bool → Bool → Bool) (a b xs ys : List ℕ) (y i j k x n o p : ℕ)
    → bits xs 0 (8 * k) ≡ bits a (8 * i) (8 * k)
    → (0 < n - bits_held p → bits ys 0 (8 * k) ≡ bits b (8 * j) (8 * k)) → IsHeld b p y
    → o ≡ 8 * i + x → 8 * j ≡ p + bits_held p → x + n ≤ 8 * k
    → merged_ones f xs x (y ∷ []) (p % 8) (min n (bits_held p))
    + merged_ones f xs (x + min n (bits_held p)) ys 0 (n - bits_held p) ≡ merged_ones f a o b p n
merged_ones_of_unit f a b xs ys y i j k x n o p left right held from next within =
    let t : ℕ = min n (bits_held p) in
    let e : ℕ = n - bits_held p in
    let front = merged_ones_if_any f xs (y ∷ []) a b x (p % 8) o p t
    (λ h. part_of_read a xs i k x t o left from (omega arith))
    (λ h. bits_of_read_byte b y p t (held.held (omega arith)) (omega arith)) in
    let back = merged_ones_if_any f xs ys a b (x + t) 0 (o + t) (p + t) e
    (λ h. part_of_read a xs i k (x + t) e (o + t) left (omega arith) (omega arith))
    (λ h. part_of_read b ys j k 0 e (p + t) (right h) (omega arith) (omega arith)) in
    omega (
      arith,
      front,
      back,
      merged_ones_split f a b o p t n (o + t) (p + t) e refl refl (omega arith),
    )

-- ---- the held byte
-- after n bits: the byte that was read if they continue in it, else the previous one
pub held_behind_part : (b : List ℕ) (y z p j n : ℕ) → IsHeld b p y
    → (0 < n - bits_held p → z ≡ get_or b j 0) → (n - bits_held p ≡ 0 → z ≡ y)
    → 8 * j ≡ p + bits_held p → 0 < n → n ≤ 8 → IsHeld b (p + n) z
held_behind_part b y z p j n held read kept next some few = record {
  held = λ h. elim (cases_lt 0 (n - bits_held p)) [
    | inl past ↦
        let byte : j ≡ (p + n) / 8 = omega arith in
        read past ∙ ap (λ i. get_or b i 0) byte
    | inr within ↦
        let byte : p / 8 ≡ (p + n) / 8 = omega arith in
        kept (omega arith) ∙ held.held (omega arith) ∙ ap (λ i. get_or b i 0) byte
  ];
}

-- the same byte in equal bytes, at the same bit
pub is_held_in : {b c : List ℕ} {p q y : ℕ} → c ≡ b → p ≡ q → IsHeld c p y → IsHeld b q y
is_held_in {b} {c} {p} {q} {y} same place held =
    subst (λ x. IsHeld x q y) same (subst (λ x. IsHeld c x y) place held)

-- ---- units in a row
-- the first k units of w bytes: the number of set bits, and the looks at them; after them y is held
pub record UnitsCounted (f : Bool → Bool → Bool) (w o p k ones y : ℕ)
    (left left_now right right_now : CountedBytes) : Type 0 where
  pub value : ones ≡ merged_ones f left.bytes o right.bytes p (8 * (w * k))
  pub looks : LooksExactly k left left_now
  pub beside : LooksExactly k right right_now
  pub held : IsHeld right.bytes (p + 8 * (w * k)) y

-- no unit
pub counted_none : (f : Bool → Bool → Bool) (w o p y : ℕ) (left right : CountedBytes)
    → IsHeld right.bytes p y → UnitsCounted f w o p 0 0 y left left right right
counted_none f w o p y left right held =
    let none = units_none w in
    let end : p ≡ p + 8 * (w * 0) = omega (arith, none) in
    record {
      value = sym (ap (merged_ones f left.bytes o right.bytes p) none
          ∙ merged_ones_none f left.bytes right.bytes o p);
      looks = record { same = refl; looks = omega arith };
      beside = record { same = refl; looks = omega arith };
      held = is_held_in refl end held;
    }

module _ {f : Bool → Bool → Bool} {w o p k ones y : ℕ} {left mid right amid : CountedBytes}
    (so_far : UnitsCounted f w o p k ones y left mid right amid) where
  -- at most the number of bits
  pub counted-le : ones ≤ 8 * (w * k)
  counted-le = omega (
    arith,
    so_far.value,
    merged_ones-le f left.bytes right.bytes o p (8 * (w * k)),
  )

  -- one more unit, of which x bits are set
  pub counted_more : {new anew : CountedBytes} → (at from x z : ℕ)
      → x ≡ merged_ones f mid.bytes at amid.bytes from (8 * w) → LooksExactly 1 mid new
      → LooksExactly 1 amid anew → IsHeld amid.bytes (from + 8 * w) z
      → at ≡ o + 8 * (w * k) → from ≡ p + 8 * (w * k)
      → UnitsCounted f w o p (k + 1) (ones + x) z left new right anew
  counted_more at from x z value looks beside held place other =
      let a = left.bytes in let b = right.bytes in let u : ℕ = 8 * w in
      let n : ℕ = 8 * (w * k) in let m : ℕ = 8 * (w * (k + 1)) in
      let end : m ≡ n + u = units_more w k in
      let behind : from + u ≡ p + m = omega (arith, end) in
      record {
        value = omega (
          arith,
          so_far.value,
          value,
          merged_ones_same f a b _ _ at from u so_far.looks.same so_far.beside.same,
          merged_ones_split f a b o p n m at from u place other end,
        );
        looks = record {
          same = looks.same ∙ so_far.looks.same;
          looks = omega (arith, so_far.looks.looks, looks.looks);
        };
        beside = record {
          same = beside.same ∙ so_far.beside.same;
          looks = omega (arith, so_far.beside.looks, beside.looks);
        };
        held = is_held_in so_far.beside.same behind held;
      }
