-- A search of two windows, which continues from one look to the next and stops at its result.
use Rattle.std.proofs.Common.{◌≡◌, ◌≢◌, ℕ, ◌+◌, ◌-◌, ◌*◌, ◌/◌, ◌%◌, ◌<◌, ◌≤◌, Bool, List, min}
use Rattle.std.proofs.Common.{inl, inr, true, false, sym, ap, ◌∙◌, arith}
use Rattle.std.specs.Prelude.{IsTrue}
use Rattle.std.proofs.lemmas.Bool.{cases_lt}
use Rattle.std.proofs.lemmas.List.{get_or_past}
use Rattle.vb_bits.specs.Bits.{bit_of, bits, at}
use Rattle.vb_bits.specs.Operators.{merged_by}
use Rattle.vb_count.specs.Looks.{IsWholeLook}
use Rattle.vb_pair.specs.Beside.{part_looks, looks_beside}
use Rattle.vb_pair.specs.Merged.{merged_ones}
use Rattle.vb_bits.proofs.BitsLemmas.{length-bits, at-bits, count-take-lt}
use Rattle.vb_bits.proofs.OperatorsLemmas.{length-merged_bits, at-merged_by}

-- ---- the result
-- a value of two combined windows
at-merged : (f : Bool → Bool → Bool) (a b : List ℕ) (o p n i : ℕ) → i < n
    → at (merged_by f (bits a o n) (bits b p n)) i ≡ f (bit_of a (o + i)) (bit_of b (p + i))
at-merged f a b o p n i l =
    at-merged_by f (bits a o n) (bits b p n) i false false false
    (omega (arith, length-bits a o n)) (omega (arith, length-bits b p n))
    ∙ ap (λ x. f x (at (bits b p n) i)) (at-bits a o n i false l)
    ∙ ap (f (bit_of a (o + i))) (at-bits b p n i false l)

-- no value is true after the windows
pub merged_within : (f : Bool → Bool → Bool) (a b : List ℕ) (o p n i : ℕ)
    → IsTrue (at (merged_by f (bits a o n) (bits b p n)) i) → i < n
merged_within f a b o p n i on = elim (cases_lt i n) [
  | inl l ↦ l
  | inr past ↦
      let off = get_or_past (merged_by f (bits a o n) (bits b p n)) i false
      (omega (arith, length-merged_bits f a b o p n)) in
      absurd (let e = sym off ∙ on in cc)
]

-- if no value is true before index m, each true value is at m or after
pub merged_behind : (f : Bool → Bool → Bool) (a b : List ℕ) (o p n m i : ℕ)
    → m ≤ n → merged_ones f a o b p m ≡ 0
    → IsTrue (at (merged_by f (bits a o n) (bits b p n)) i) → m ≤ i
merged_behind f a b o p n m i within none on = elim (cases_lt i m) [
  | inr past ↦ past
  | inl l ↦
      let here = at-merged f a b o p m i l ∙ sym (at-merged f a b o p n i (omega arith)) ∙ on in
      absurd (omega (
        arith,
        none,
        count-take-lt (merged_by f (bits a o m) (bits b p m)) i
            (omega (arith, length-merged_bits f a b o p m)) here,
      ))
]

-- if the number of true values is 0, no value is true at any index
pub merged_nowhere : (f : Bool → Bool → Bool) (a b c : List ℕ) (o p n m i : ℕ)
    → c ≡ b → m ≡ n → merged_ones f a o c p m ≡ 0
    → at (merged_by f (bits a o n) (bits b p n)) i ≢ true
merged_nowhere f a b c o p n m i same end none on =
    let all = sym (ap (λ x. merged_ones f a o x p n) same)
    ∙ sym (ap (λ z. merged_ones f a o c p z) end) ∙ none in
    omega (
      arith,
      merged_behind f a b o p n n i (omega arith) all on,
      merged_within f a b o p n i on,
    )

-- ---- looks at the right window
-- the looks at m whole bytes
abbrev unit_looks : ℕ → ℕ
unit_looks m = m / 64 + m % 64 / 8 + m % 8

-- the looks at n bits from bit p on after the byte of bit p is held; the first h of them end a byte
-- of the left window
abbrev looks_behind : ℕ → ℕ → ℕ → ℕ
looks_behind h p n =
    part_looks p h + (n - h) / 8 / 64 + (n - h) / 8 % 64 / 8 + (n - h) / 8 % 8
    + part_looks (p + h + 8 * ((n - h) / 8)) ((n - h) % 8)

-- the looks at n bits from bit p on alongside n bits from bit o on, after the byte of bit p is held
abbrev pub looks_held : ℕ → ℕ → ℕ → ℕ
looks_held o p n = looks_behind (min n ((8 - o % 8) % 8)) p n

-- with the look at that byte, these are all looks
pub looks_beside_held : (o p n : ℕ) → looks_beside o p n ≡ min (min n (p % 8)) 1 + looks_held o p n
looks_beside_held o p n =
    let h : ℕ = min n ((8 - o % 8) % 8) in
    let m : ℕ = (n - h) / 8 in
    five (min (min n (p % 8)) 1) (part_looks p h) (m / 64) (m % 64 / 8) (m % 8)
    (part_looks (p + h + 8 * m) ((n - h) % 8))
  where
    five : (a b c d e f : ℕ) → a + b + c + d + e + f ≡ a + (b + c + d + e + f)
    five a b c d e f = omega arith

-- the looks at n bits alongside bits that start at a whole byte
abbrev looks_whole : ℕ → ℕ → ℕ
looks_whole p n = unit_looks (n / 8) + part_looks (p + 8 * (n / 8)) (n % 8)

looks_none : (h p n : ℕ) → h ≡ 0 → looks_behind h p n ≡ looks_whole p n
looks_none h p n none =
    let size : n - h ≡ n = omega arith in
    let place : p + h + 8 * (n / 8) ≡ p + 8 * (n / 8) = omega arith in
    ap (λ x. part_looks p h + x / 8 / 64 + x / 8 % 64 / 8 + x / 8 % 8
    + part_looks (p + h + 8 * (x / 8)) (x % 8)) size
    ∙ four (part_looks p h) (n / 8 / 64) (n / 8 % 64 / 8) (n / 8 % 8)
    (part_looks (p + h + 8 * (n / 8)) (n % 8)) (part_looks (p + 8 * (n / 8)) (n % 8))
    (omega arith) (ap (λ x. part_looks x (n % 8)) place)
  where
    four : (z a b c d e : ℕ) → z ≡ 0 → d ≡ e → z + a + b + c + d ≡ a + b + c + e
    four z a b c d e none same = omega arith

looks_held_whole : (o p n : ℕ) → (0 < n → o % 8 ≡ 0) → looks_held o p n ≡ looks_whole p n
looks_held_whole o p n whole =
    let none : min n ((8 - o % 8) % 8) ≡ 0 = elim (cases_lt 0 n) [
      | inl some ↦ omega (arith, whole some)
      | inr past ↦ omega arith
    ] in
    looks_none (min n ((8 - o % 8) % 8)) p n none

-- the looks at no bits
looks_held_none : (o p n : ℕ) → n ≡ 0 → looks_held o p n ≡ 0
looks_held_none o p n none =
    looks_held_whole o p n (λ h. absurd (omega arith))
    ∙ both (unit_looks (n / 8)) (part_looks (p + 8 * (n / 8)) (n % 8)) (omega arith) (omega arith)
  where
    both : (a b : ℕ) → a ≡ 0 → b ≡ 0 → a + b ≡ 0
    both a b left right = omega arith

-- after the first n bits, which end the byte of bit o
looks_head : (o p m n : ℕ) → 0 < o % 8 → n ≡ min m (8 - o % 8)
    → looks_held o p m ≡ part_looks p n + looks_held (o + n) (p + n) (m - n)
looks_head o p m n part is =
    let head : min m ((8 - o % 8) % 8) ≡ n = omega arith in
    ap (λ h. looks_behind h p m) head
    ∙ five (part_looks p n) ((m - n) / 8 / 64) ((m - n) / 8 % 64 / 8) ((m - n) / 8 % 8)
    (part_looks (p + n + 8 * ((m - n) / 8)) ((m - n) % 8))
    ∙ ap (λ x. part_looks p n + x)
    (sym (looks_held_whole (o + n) (p + n) (m - n) (λ h. omega arith)))
  where
    five : (a b c d e : ℕ) → a + b + c + d + e ≡ a + (b + c + d + e)
    five a b c d e = omega arith

-- after the first n bits, which are u whole bytes that one look reads
looks_unit : (o p m n u : ℕ) → o % 8 ≡ 0 → n ≡ 8 * u → 0 < u → n ≤ m
    → unit_looks (m / 8) ≡ 1 + unit_looks ((m - n) / 8)
    → looks_held o p m ≡ part_looks p n + looks_held (o + n) (p + n) (m - n)
looks_unit o p m n u whole is some within units =
    let place : p + 8 * (m / 8) ≡ p + n + 8 * ((m - n) / 8) = omega arith in
    let last : m % 8 ≡ (m - n) % 8 = omega arith in
    looks_held_whole o p m (λ h. whole)
    ∙ three (unit_looks (m / 8)) (unit_looks ((m - n) / 8)) _ _ (part_looks p n) units
    (ap (λ x. part_looks x (m % 8)) place
    ∙ ap (part_looks (p + n + 8 * ((m - n) / 8))) last)
    (omega arith)
    ∙ ap (λ x. part_looks p n + x)
    (sym (looks_held_whole (o + n) (p + n) (m - n) (λ h. omega arith)))
  where
    three : (a b c d e : ℕ) → a ≡ 1 + b → c ≡ d → e ≡ 1 → a + c ≡ e + (b + d)
    three a b c d e one same unit = omega arith

-- after the last n bits, fewer than a byte has
looks_last : (o p m n : ℕ) → o % 8 ≡ 0 → m < 8 → n ≡ m
    → looks_held o p m ≡ part_looks p n + looks_held (o + n) (p + n) (m - n)
looks_last o p m n whole few is =
    let place : p + 8 * (m / 8) ≡ p = omega arith in
    let last : m % 8 ≡ n = omega arith in
    looks_held_whole o p m (λ h. whole)
    ∙ zero (unit_looks (m / 8)) (part_looks (p + 8 * (m / 8)) (m % 8)) (part_looks p n)
    (looks_held (o + n) (p + n) (m - n)) (omega arith)
    (ap (λ x. part_looks x (m % 8)) place ∙ ap (part_looks p) last)
    (looks_held_none (o + n) (p + n) (m - n) (omega arith))
  where
    zero : (u a b c : ℕ) → u ≡ 0 → a ≡ b → c ≡ 0 → u + a ≡ b + c
    zero u a b c units same none = omega arith

-- units of whole bytes
units_chunk : (q : ℕ) → unit_looks (64 + q) ≡ 1 + unit_looks q
units_chunk q = omega arith

units_word : (q : ℕ) → 8 + q < 64 → unit_looks (8 + q) ≡ 1 + unit_looks q
units_word q few = omega arith

units_byte : (q : ℕ) → 1 + q < 8 → unit_looks (1 + q) ≡ 1 + unit_looks q
units_byte q few = omega arith

-- after the first n of m bits, which one look reads
pub looks_held_on : (o p m n : ℕ) → 0 < m → (0 < o % 8 → n ≡ min m (8 - o % 8))
    → (o % 8 ≡ 0 → IsWholeLook m n)
    → looks_held o p m ≡ part_looks p n + looks_held (o + n) (p + n) (m - n)
looks_held_on o p m n some head whole = elim (cases_lt 0 (o % 8)) [
  | inl part ↦ looks_head o p m n part (head part)
  | inr past ↦
      let start : o % 8 ≡ 0 = omega arith in
      let is = whole start in
      elim (cases_lt m 512) [
        | inr long ↦
            let e : m / 8 ≡ 64 + (m - n) / 8 = omega (arith, is.chunk long) in
            looks_unit o p m n 64 start (is.chunk long) (omega arith)
            (omega (arith, is.chunk long)) (ap unit_looks e ∙ units_chunk ((m - n) / 8))
        | inl short ↦ elim (cases_lt m 64) [
          | inr long ↦
              let e : m / 8 ≡ 8 + (m - n) / 8 = omega (arith, is.word short long) in
              looks_unit o p m n 8 start (is.word short long) (omega arith)
              (omega (arith, is.word short long))
              (ap unit_looks e ∙ units_word ((m - n) / 8) (omega arith))
          | inl few ↦ elim (cases_lt m 8) [
            | inr long ↦
                let e : m / 8 ≡ 1 + (m - n) / 8 = omega (arith, is.byte few) in
                looks_unit o p m n 1 start (omega (arith, is.byte few)) (omega arith)
                (omega (arith, is.byte few))
                (ap unit_looks e ∙ units_byte ((m - n) / 8) (omega arith))
            | inl last ↦ looks_last o p m n start last (omega (arith, is.byte few))
          ]
        ]
      ]
]
