-- Bits appended to bits, in a word and across its end.
use Rattle.std.proofs.Common.{◌≡◌, inl, inr, ℕ, ◌+◌, ◌-◌, ◌*◌, ◌/◌, ◌%◌, ◌^◌, ◌<◌, ◌≤◌, Bool}
use Rattle.std.proofs.Common.{true, false, ◌||◌, List, ◌++◌, length, eqb, refl, sym, ap, subst}
use Rattle.std.proofs.Common.{◌∙◌, arith, zero-add, append_assoc}
use Rattle.std.specs.Int.{bit_at}
use Rattle.std.specs.Int.Bits.{bit_or}
use Rattle.std.proofs.Math.Pow.{pow_mono, shl_lt, shr_lt}
use Rattle.std.proofs.lemmas.Nat.{or_lt, shl_whole}
use Rattle.vb_bits.specs.Bits.{bits, bit_of}
use Rattle.vb_bits.specs.Digits.{has_bit, digits}
use Rattle.std.proofs.lemmas.Bool.{cases_lt}
use Rattle.std.proofs.lemmas.List.{length-append, length-drop, length-take-le, get_or-take}
use Rattle.std.specs.Prelude.{take, drop}
use Rattle.vb_bits.specs.Writes.{Writes, extension}
use Rattle.vb_bits.proofs.WindowLemmas.{bits-append, bit_of-append, bit_of-extension}
use Rattle.vb_bits.proofs.BitsLemmas.{bits-add, same_bits, length-bits}
use Rattle.vb_bits.proofs.DigitsLemmas.{digits-add, same_digits, has_bit-or, length-digits}
use Rattle.vb_bits.proofs.ShiftLemmas.{shl_low, shl_high, bit_at_cut, digits_shr}
use Rattle.vb_pack.proofs.WordsLemmas.{has_bit_above}
use Rattle.vb_filter.specs.Pending.{first_bits}

or_none : (b : Bool) → (b || false) ≡ b
or_none true = refl
or_none false = refl

-- a word with the bits of another one from bit s on
abbrev pub joined : ℕ → ℕ → ℕ → ℕ
joined p w s = bit_or p (w * 2 ^ s % 2 ^ 64)

module _ (p w s : ℕ) (clear : p < 2 ^ s) where
  low_digit : (i : ℕ) → i < s → s ≤ 64 → has_bit (joined p w s) i ≡ has_bit p i
  low_digit i below within =
      let none : has_bit (w * 2 ^ s % 2 ^ 64) i ≡ false =
      ap (λ y. eqb y 1) (bit_at_cut (w * 2 ^ s) 64 i (omega arith) ∙ shl_low w s i below) in
      has_bit-or p (w * 2 ^ s % 2 ^ 64) i ∙ ap (λ b. has_bit p i || b) none
      ∙ or_none (has_bit p i)

  high_digit : (i : ℕ) → s + i < 64 → has_bit (joined p w s) (s + i) ≡ has_bit w i
  high_digit i within =
      let place : s + i - s ≡ i = omega arith in
      let there : has_bit (w * 2 ^ s % 2 ^ 64) (s + i) ≡ has_bit w i =
      ap (λ y. eqb y 1) (bit_at_cut (w * 2 ^ s) 64 (s + i) within
      ∙ shl_high w s (s + i) (omega arith) ∙ ap (bit_at w) place) in
      has_bit-or p (w * 2 ^ s % 2 ^ 64) (s + i)
      ∙ ap (λ b. b || has_bit (w * 2 ^ s % 2 ^ 64) (s + i))
      (has_bit_above p s (s + i) clear (omega arith))
      ∙ there

  pub joined-digits : (m : ℕ) → s + m ≤ 64
      → digits (joined p w s) 0 (s + m) ≡ digits p 0 s ++ digits w 0 m
  joined-digits m within =
      digits-add (joined p w s) 0 s m
      ∙ ap (λ l. l ++ digits (joined p w s) (0 + s) m)
      (same_digits (joined p w s) p 0 0 s (λ i h.
      ap (has_bit (joined p w s)) (zero-add i) ∙ low_digit i h (omega arith)
      ∙ ap (has_bit p) (sym (zero-add i))))
      ∙ ap (λ l. digits p 0 s ++ l)
      (same_digits (joined p w s) w (0 + s) 0 m (λ i h.
      let place : 0 + s + i ≡ s + i = omega arith in
      ap (has_bit (joined p w s)) place ∙ high_digit i (omega arith)
      ∙ ap (has_bit w) (sym (zero-add i))))

  -- the word isn't full yet
  pub joined-lt : (n : ℕ) → w < 2 ^ n → s + n ≤ 64 → joined p w s < 2 ^ (s + n)
  joined-lt n small within =
      let more : 2 ^ s ≤ 2 ^ (s + n) = pow_mono (omega arith) in
      let whole : w * 2 ^ s % 2 ^ 64 ≡ w * 2 ^ s = shl_whole w n s 64 small (omega arith) in
      let turned : n + s ≡ s + n = omega arith in
      let high : w * 2 ^ s < 2 ^ (s + n) =
      subst (λ k. w * 2 ^ s < 2 ^ k) turned (shl_lt n s small) in
      or_lt (s + n) p (w * 2 ^ s % 2 ^ 64) (omega arith) (omega arith)

-- bits appended within the pending word
pub first_bits-in_word : (b : List ℕ) (p w len n : ℕ) → p < 2 ^ (len % 64) → len % 64 + n < 64
    → first_bits b (joined p w (len % 64)) (len + n) ≡ first_bits b p len ++ digits w 0 n
first_bits-in_word b p w len n clear within =
    let s = len % 64 in
    let word : (len + n) / 64 ≡ len / 64 = omega arith in
    let place : (len + n) % 64 ≡ s + n = omega arith in
    let x = joined p w s in
    ap (λ q. bits b 0 (64 * q) ++ digits x 0 ((len + n) % 64)) word
    ∙ ap (λ k. bits b 0 (64 * (len / 64)) ++ digits x 0 k) place
    ∙ ap (λ l. bits b 0 (64 * (len / 64)) ++ l) (joined-digits p w s clear n (omega arith))
    ∙ sym (append_assoc (bits b 0 (64 * (len / 64))) (digits p 0 s) (digits w 0 n))

-- the bytes up to the end of a word that was written after q others
pub bits-word : (b c : List ℕ) (x q : ℕ) → Writes b c (64 * q) (digits x 0 64)
    → bits c 0 (64 * (q + 1)) ≡ bits b 0 (64 * q) ++ digits x 0 64
bits-word b c x q w =
    let next : 64 * (q + 1) ≡ 64 * q + 64 = omega arith in
    let len = length-digits x 0 64 in
    let place : 0 + 64 * q ≡ 64 * q = omega arith in
    ap (bits c 0) next ∙ bits-add c 0 (64 * q) 64
    ∙ ap (λ l. l ++ bits c (0 + 64 * q) 64)
    (same_bits c b 0 0 (64 * q) (λ i h. w.others (0 + i) (inl (omega arith))))
    ∙ ap (λ k. bits b 0 (64 * q) ++ bits c k 64) place
    ∙ ap (λ l. bits b 0 (64 * q) ++ l)
    (ap (bits c (64 * q)) (sym len) ∙ w.window)

-- bits appended across the end of the pending word
pub first_bits-past_word : (b c : List ℕ) (p w len n : ℕ) → p < 2 ^ (len % 64)
    → 64 ≤ len % 64 + n → n ≤ 64
    → Writes b c (64 * (len / 64)) (digits (joined p w (len % 64)) 0 64)
    → first_bits c (w / 2 ^ (64 - len % 64)) (len + n) ≡ first_bits b p len ++ digits w 0 n
first_bits-past_word b c p w len n clear past few write =
    let s = len % 64 in
    let q = len / 64 in
    let x = joined p w s in
    let front = bits b 0 (64 * q) in
    let word : (len + n) / 64 ≡ q + 1 = omega arith in
    let place : (len + n) % 64 ≡ s + n - 64 = omega arith in
    let full : s + (64 - s) ≡ 64 = omega arith in
    let rest : 64 - s + (s + n - 64) ≡ n = omega arith in
    let from : 0 + (64 - s) ≡ 64 - s = omega arith in
    let low = digits w 0 (64 - s) in
    let high = digits w (64 - s) (s + n - 64) in
    let cut : digits w 0 n ≡ low ++ high =
    ap (digits w 0) (sym rest) ∙ digits-add w 0 (64 - s) (s + n - 64)
    ∙ ap (λ k. low ++ digits w k (s + n - 64)) from in
    let filled : digits x 0 64 ≡ digits p 0 s ++ low =
    ap (digits x 0) (sym full) ∙ joined-digits p w s clear (64 - s) (omega arith) in
    ap (λ k. bits c 0 (64 * k) ++ digits (w / 2 ^ (64 - s)) 0 ((len + n) % 64)) word
    ∙ ap (λ k. bits c 0 (64 * (q + 1)) ++ digits (w / 2 ^ (64 - s)) 0 k) place
    ∙ ap (λ l. bits c 0 (64 * (q + 1)) ++ l) (digits_shr w (64 - s) (s + n - 64))
    ∙ ap (λ l. l ++ high) (bits-word b c x q write)
    ∙ ap (λ l. (front ++ l) ++ high) filled
    ∙ append_assoc front (digits p 0 s ++ low) high
    ∙ ap (λ l. front ++ l) (append_assoc (digits p 0 s) low high)
    ∙ ap (λ l. front ++ (digits p 0 s ++ l)) (sym cut)
    ∙ sym (append_assoc front (digits p 0 s) (digits w 0 n))

-- the rest of a word of n bits has no ones after those bits
pub rest-lt : (w s n : ℕ) → w < 2 ^ n → s < 64 → 64 ≤ s + n → w / 2 ^ (64 - s) < 2 ^ (s + n - 64)
rest-lt w s n small inside past =
    let all : n ≡ s + n - 64 + (64 - s) = omega arith in
    shr_lt (s + n - 64) (64 - s) (subst (λ k. w < 2 ^ k) all small)

-- if the bits from bit n on are the same, only the first n bits were written
pub Writes_up_to : (b c : List ℕ) (n : ℕ) → length c ≡ length b
    → ((i : ℕ) → n ≤ i → bit_of c i ≡ bit_of b i) → Writes b c 0 (bits c 0 n)
Writes_up_to b c n same behind = record {
  same_len = same;
  window = ap (bits c 0) (length-bits c 0 n);
  others = λ i h. elim h [
    | inl none ↦ absurd (omega arith)
    | inr past ↦ behind i (omega (arith, length-bits c 0 n))
  ];
}

-- the same after two writes, the second at least as long as the first
pub Writes_up_to-more : (b c d : List ℕ) (m n : ℕ) → m ≤ n → Writes b c 0 (bits c 0 m)
    → Writes c d 0 (bits d 0 n) → Writes b d 0 (bits d 0 n)
Writes_up_to-more b c d m n le one two =
    Writes_up_to b d n (two.same_len ∙ one.same_len)
    (λ i h. two.others i (inr (omega (arith, length-bits d 0 n)))
    ∙ one.others i (inr (omega (arith, length-bits c 0 m))))

-- ---- the bytes in front
-- a write to the first e bytes is a write to all of them
pub Writes_in_front : (b c : List ℕ) (o e : ℕ) (m : List Bool) → e ≤ length b
    → o + length m ≤ 8 * e → Writes (take e b) c o m → Writes b (c ++ drop e b) o m
Writes_in_front b c o e m inside within w =
    let long : length c ≡ e = w.same_len ∙ length-take-le e b inside in
    let same : c ++ drop e b ≡ extension c b = ap (λ k. c ++ drop k b) (sym long) in
    record {
      same_len = omega (arith, long, inside, length-append c (drop e b), length-drop e b);
      window = bits-append c (drop e b) o (length m) (omega (arith, long, within)) ∙ w.window;
      others = λ i h. elim (cases_lt i (8 * e)) [
        | inl front ↦ bit_of-append c (drop e b) i (omega (arith, long)) ∙ w.others i h
            ∙ ap (λ x. has_bit x (i % 8)) (get_or-take e b (i / 8) 0 (omega arith))
        | inr behind ↦ ap (λ x. bit_of x i) same ∙ bit_of-extension c b i (omega (arith, long))
      ];
    }
