-- The digits of the words of a list are the values of the list.
use Rattle.std.proofs.Common.{◌≡◌, ℕ, zero, suc, ◌+◌, ◌-◌, ◌*◌, ◌/◌, ◌%◌, ◌≤◌}
use Rattle.std.proofs.Common.{Bool, true, false, cond, eqb, List, [], ◌∷◌, ◌++◌}
use Rattle.std.proofs.Common.{length, take, drop, flat_map, sym, ap, ◌∙◌, arith, append-nil}
use Rattle.std.proofs.Math.Seq.{take-add}
use Rattle.std.proofs.lemmas.Grind.{flat_map-append}
use Rattle.std.proofs.lemmas.List.{length-drop, length-take, take_all, take-append-le}
use Rattle.std.proofs.lemmas.List.{take-append-drop}
use Rattle.std.proofs.lemmas.Nat.Bits.{bit_at_lowest}
use Rattle.vb_bits.specs.Digits.{digits, has_bit}
use Rattle.vb_set.specs.Words.{bits_number, word, words}
use Rattle.vb_set.proofs.DigitsLemmas.{digits_none, digits-suc, digits-add, length-digits}
use Rattle.vb_set.proofs.WordsLemmas.{words_none, words_push}

-- the lowest digit
lowest_is : (b : Bool) (n : ℕ) → has_bit (cond b 1 0 + 2 * n) 0 ≡ b
lowest_is true n =
    let odd : (1 + 2 * n) % 2 ≡ 1 = omega arith in
    ap (λ x. eqb x 1) (bit_at_lowest (1 + 2 * n) ∙ odd)
lowest_is false n =
    let even : (0 + 2 * n) % 2 ≡ 0 = omega arith in
    ap (λ x. eqb x 1) (bit_at_lowest (0 + 2 * n) ∙ even)

-- the other digits
others_are : (b : Bool) (n : ℕ) → (cond b 1 0 + 2 * n) / 2 ≡ n
others_are true n = omega arith
others_are false n = omega arith

-- the digits of the number of a list
digits-bits_number : (l : List Bool) → digits (bits_number l) 0 (length l) ≡ l
digits-bits_number [] = digits_none 0 0
digits-bits_number (b ∷ l) =
    let w = cond b 1 0 + 2 * bits_number l in
    digits-suc w (length l)
    ∙ ap (λ d. d ∷ digits (w / 2) 0 (length l)) (lowest_is b (bits_number l))
    ∙ ap (λ n. b ∷ digits n 0 (length l)) (others_are b (bits_number l))
    ∙ ap (λ d. b ∷ d) (digits-bits_number l)

-- the first of the 64 digits
take-digits : (w k : ℕ) → k ≤ 64 → take k (digits w 0 64) ≡ digits w 0 k
take-digits w k few =
    let size : 64 ≡ k + (64 - k) = omega arith in
    let len : length (digits w 0 k) ≡ k = length-digits w 0 k in
    ap (λ n. take k (digits w 0 n)) size ∙ ap (take k) (digits-add w 0 k (64 - k))
    ∙ take-append-le k (digits w 0 k) _ (omega (arith, len))
    ∙ take_all k (digits w 0 k) (omega (arith, len))

-- the digits of a word, one for each value in it
digits-word : (l : List Bool) (k n : ℕ) → length (take 64 (drop (64 * k) l)) ≡ n
    → digits (word l k) 0 n ≡ take 64 (drop (64 * k) l)
digits-word l k n e =
    ap (digits (word l k) 0) (sym e) ∙ digits-bits_number (take 64 (drop (64 * k) l))

-- the digits of full words
digits-words : (l : List Bool) (n : ℕ) → 64 * n ≤ length l
    → flat_map (λ w. digits w 0 64) (words l n) ≡ take (64 * n) l
digits-words l zero h = ap (flat_map (λ w. digits w 0 64)) (words_none l)
digits-words l (suc n) h =
    let next : suc n ≡ n + 1 = omega arith in
    let at : 64 * n + 64 ≡ 64 * suc n = omega arith in
    let left : length (drop (64 * n) l) ≡ length l - 64 * n = length-drop (64 * n) l in
    let full : length (take 64 (drop (64 * n) l)) ≡ 64 =
    length-take 64 (drop (64 * n) l) ∙ omega (arith, left, h) in
    ap (λ m. flat_map (λ w. digits w 0 64) (words l m)) next
    ∙ ap (flat_map (λ w. digits w 0 64)) (words_push l n)
    ∙ flat_map-append (λ w. digits w 0 64) (words l n) (word l n ∷ [])
    ∙ ap (λ d. flat_map (λ w. digits w 0 64) (words l n) ++ d) (append-nil _)
    ∙ ap (λ d. d ++ digits (word l n) 0 64) (digits-words l n (omega (arith, h)))
    ∙ ap (λ d. take (64 * n) l ++ d) (digits-word l n 64 full)
    ∙ sym (take-add (64 * n) 64 l)
    ∙ ap (λ m. take m l) at

-- the values after the full words
digits-rest : (l : List Bool) → take (length l % 64) (digits (word l (length l / 64)) 0 64)
    ≡ drop (64 * (length l / 64)) l
digits-rest l =
    let k = length l / 64 in
    let left : length (drop (64 * k) l) ≡ length l % 64 =
    length-drop (64 * k) l ∙ omega arith in
    let all : take 64 (drop (64 * k) l) ≡ drop (64 * k) l =
    take_all 64 (drop (64 * k) l) (omega (arith, left)) in
    take-digits (word l k) (length l % 64) (omega arith)
    ∙ digits-word l k (length l % 64) (ap length all ∙ left) ∙ all

-- the digits of the full words, and of the word after them
pub digits-chunks : (l : List Bool)
    → flat_map (λ w. digits w 0 64) (words l (length l / 64))
    ++ take (length l % 64) (digits (word l (length l / 64)) 0 64) ≡ l
digits-chunks l =
    let k = length l / 64 in
    ap (λ d. d ++ take (length l % 64) (digits (word l k) 0 64)) (digits-words l k (omega arith))
    ∙ ap (λ d. take (64 * k) l ++ d) (digits-rest l)
    ∙ take-append-drop (64 * k) l
