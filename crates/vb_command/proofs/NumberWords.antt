-- The numbers that words write, derived from the contracts of `parse`.
use Rattle.std.proofs.Common.{◌≡◌, ◌≢◌, ℕ, ◌^◌, ◌-◌, ◌<◌, ◌≤◌, Bool, true, false, ◌&&◌, cond, List}
use Rattle.std.proofs.Math.Nat.{pow-le-pow_right}
use Rattle.std.proofs.Math.Seq.{drop-cons}
use Rattle.std.proofs.lemmas.Bool.Decides.{nat_tests}
use Rattle.std.proofs.lemmas.Int.Digits.{digits_value_more}
use Rattle.std.proofs.lemmas.Str.{digit_value_digit}
use Rattle.std.specs.Char.{is_ascii_digit}
use Rattle.std.specs.Int.{IsInRange}
use Rattle.std.proofs.Common.{Option, suc, pow-suc, ◌+◌, ◌*◌, take}
use Rattle.std.proofs.Common.{length, get_or, drop, refl, sym, ap, ◌∙◌, Some, None, arith}
use Rattle.std.proofs.Common.{Result, Ok, Err}
use Rattle.std.specs.Prelude.{ℤ, pos, neg_ℤ, FitsSigned, ◌==◌, nat_le, if◌then◌else◌}
use Rattle.std.specs.Option.{option_map}
use Rattle.std.specs.Result.{OkIff, result_ok}
use Rattle.std.specs.Str.{all_ascii_digits}
use Rattle.std.specs.Str.Parse.{ParsesUnsigned, ParsesSigned, digits_value}
use Rattle.std.proofs.lemmas.Bool.{both_ways}
use Rattle.std.proofs.lemmas.Bool.{and_parts, and_from, eqb-true, eqb-false, false_from_ne_true}
use Rattle.std.proofs.lemmas.Bool.{le-leb, leb-true, lt-ltb, ltb-true, ne_eqb}
use Rattle.std.proofs.lemmas.Str.Parse.{digits_value_short}
use Rattle.std.proofs.lemmas.Str.Parse.{IsNumeralModel, numerals_by_value, tells_all_ascii_digits}
use Rattle.std.proofs.lemmas.Str.Parse.{parse_plain, parse_signed_minus, parse_signed_plain}
use Rattle.vb_command.specs.Listed.{index, number_to}
use Rattle.vb_command.specs.Optional.{◌>>=◌}
use Rattle.vb_command.specs.Words.{is_number, number}
use mir.Syntax.{w64}

-- numerals are words of decimal digits
decimal_digits : IsNumeralModel (λ ds. all_ascii_digits ds ≡ true) (digits_value 10)
decimal_digits = numerals_by_value _ tells_all_ascii_digits

-- the conditions under which a word is a number
abbrev Number : List ℕ → Type 0
Number w = (all_ascii_digits w ≡ true) × (0 < length w) × (digits_value 10 w < 2 ^ 64)

is_number-true : (w : List ℕ) → Number w → is_number w ≡ true
is_number-true w h =
    and_from _ _ (and_from _ _ h.0 (lt-ltb 0 (length w) h.1))
    (lt-ltb (digits_value 10 w) (2 ^ 64) h.2)

number-facts : (w : List ℕ) → is_number w ≡ true → Number w
number-facts w t =
    let a = and_parts _ _ t in
    let b = and_parts _ _ a.0 in
    (b.0, ltb-true _ _ b.1, ltb-true _ _ a.1)

-- `parse` returns the number of a word that does not begin with a plus
pub number_gives : {E : Type 0} (w : List ℕ) (r : Result ℕ E) → ParsesUnsigned 64 10 w r
    → get_or w 0 0 ≢ 43 → result_ok r ≡ number w
number_gives {E} w (Ok n) h plain =
    let p = parse_plain decimal_digits {E = E} 64 w (Ok n) h plain in
    ap Some p.1
    ∙ sym (ap (λ b. cond b (Some (digits_value 10 w)) None) (is_number-true w p.0))
number_gives {E} w (Err e) h plain =
    let p = parse_plain decimal_digits {E = E} 64 w (Err e) h plain in
    let none = false_from_ne_true _ (λ t. p (number-facts w t)) in
    sym (ap (λ b. cond b (Some (digits_value 10 w)) None) none)

-- a word of at most 19 digits writes a number that fits
pub few_fit : (w : List ℕ) → 0 < length w → length w ≤ 19
    → number w ≡ cond (all_ascii_digits w) (Some (digits_value 10 w)) None
few_fit w some few = by (all_ascii_digits w) refl
  where
    by : (b : Bool) → all_ascii_digits w ≡ b
        → number w ≡ cond b (Some (digits_value 10 w)) None
    by true all =
        let small = digits_value_short decimal_digits w 19 all few in
        ap (λ b. cond b (Some (digits_value 10 w)) None)
        (is_number-true w (all, some, omega (arith, small)))
    by false none =
        ap (λ b. cond b (Some (digits_value 10 w)) None)
        (false_from_ne_true _ (λ t. both_ways _ none (number-facts w t).0))

-- the code of a digit is in range
pub in_range : (c : ℕ) → is_ascii_digit c ≡ true → IsInRange 48 57 c
in_range c is = grind (arith, nat_tests, is)

-- one more digit
pub few_more : (w : List ℕ) (n i : ℕ) → i < length w → is_ascii_digit (get_or w i 0) ≡ true
    → n ≡ digits_value 10 (take i w)
    → 10 * n + (get_or w i 0 - 48) ≡ digits_value 10 (take (i + 1) w)
few_more w n i within is value =
    let d = digit_value_digit (get_or w i 0) (in_range (get_or w i 0) is) in
    let more = digits_value_more 10 w i within in
    omega (arith, d, more, value)

-- after a digit, all bytes are digits exactly if the rest are
pub few_same : (w : List ℕ) (i : ℕ) → i < length w → is_ascii_digit (get_or w i 0) ≡ true
    → all_ascii_digits (drop i w) ≡ all_ascii_digits (drop (i + 1) w)
few_same w i within is =
    ap all_ascii_digits (drop-cons w i 0 within)
    ∙ ap (λ b. b && all_ascii_digits (drop (suc i) w)) is
    ∙ (let next : suc i ≡ i + 1 = omega arith in ap (λ k. all_ascii_digits (drop k w)) next)

-- if one byte is not a digit, not all are digits
pub few_other : (w : List ℕ) (i : ℕ) → i < length w → is_ascii_digit (get_or w i 0) ≡ false
    → all_ascii_digits (drop i w) ≡ false
few_other w i within is =
    ap all_ascii_digits (drop-cons w i 0 within)
    ∙ ap (λ b. b && all_ascii_digits (drop (suc i) w)) is

-- a number of i + 1 digits is below 10 ^ (i + 1)
pub few_small : (n d i : ℕ) → n < 10 ^ i → d ≤ 9 → 10 * n + d < 10 ^ (i + 1)
few_small n d i small digit =
    let next : i + 1 ≡ suc i = omega arith in
    let more : 10 ^ (i + 1) ≡ 10 ^ i * 10 = ap (λ k. 10 ^ k) next ∙ pow-suc 10 i in
    omega (arith, more)

-- a number of at most 19 digits is below 10 ^ 19
pub few_below : (n i : ℕ) → n < 10 ^ i → i ≤ 19 → n < 10 ^ 19
few_below n i small few = omega (arith, pow-le-pow_right {n = 10} (omega arith) few)

-- a test of a number and then a test of its limit are one test
limit : (b : Bool) (v most : ℕ)
    → (cond b (Some v) None >>= (λ n. cond (nat_le n most) (Some n) None))
    ≡ cond (b && nat_le v most) (Some v) None
limit true v most = refl
limit false v most = refl

-- a result that is a number exactly if the word is a numeral up to the limit
limited : {E : Type 0} (f : ℕ → ℤ) (most : ℕ) (w : List ℕ) (r : Result ℤ E) → most < 2 ^ 64
    → OkIff r ((all_ascii_digits w ≡ true) × (0 < length w) × (digits_value 10 w ≤ most))
    (f (digits_value 10 w))
    → result_ok r ≡ option_map f (number_to most w)
limited f most w (Ok n) small h =
    let value = digits_value 10 w in
    let is = is_number-true w (h.0.0, h.0.1, omega (arith, h.0.2)) in
    let test = and_from _ _ is (le-leb value most h.0.2) in
    ap Some h.1
    ∙ sym (ap (option_map f) (limit (is_number w) value most
    ∙ ap (λ b. cond b (Some value) None) test))
limited f most w (Err e) small h =
    let value = digits_value 10 w in
    let none = false_from_ne_true (is_number w && nat_le value most) (λ t.
    let both = and_parts _ _ t in
    let n = number-facts w both.0 in
    h (n.0, n.1, leb-true value most both.1)) in
    sym (ap (option_map f) (limit (is_number w) value most
    ∙ ap (λ b. cond b (Some value) None) none))

-- the same result under equivalent conditions
told_by : {T E : Type 0} {P Q : Type 0} (r : Result T E) (x : T) → (P → Q) → (Q → P)
    → OkIff r P x → OkIff r Q x
told_by (Ok y) x to from h = (to h.0, h.1)
told_by (Err e) x to from h = λ q. h (from q)

-- the result of `parse` for a word that does not begin with a plus, with or without a minus
signed : {E : Type 0} (w : List ℕ) (r : Result ℤ E) (minus : Bool) → (get_or w 0 0 == 45) ≡ minus
    → ParsesSigned w64 10 w r → get_or w 0 0 ≢ 43
    → result_ok r ≡ (if minus
    then option_map (λ n. neg_ℤ (pos n)) (number_to (2 ^ 63) (drop 1 w))
    else option_map pos (number_to (2 ^ 63 - 1) w))
signed {E} w r true is h plain =
    limited (λ n. neg_ℤ (pos n)) (2 ^ 63) (drop 1 w) r (omega arith)
    (parse_signed_minus decimal_digits {E = E} w64 w r h (eqb-true _ _ is))
signed {E} w r false is h plain =
    limited pos (2 ^ 63 - 1) w r (omega arith)
    (told_by r (pos (digits_value 10 w))
    (λ f. (f.0, f.1, omega (arith, f.2))) (λ f. (f.0, f.1, omega (arith, f.2)))
    (parse_signed_plain decimal_digits {E = E} w64 w r h plain (eqb-false _ _ is)))

-- `parse` returns the index of a word that does not begin with a plus
pub index_gives : {E : Type 0} (w : List ℕ) (r : Result ℤ E) → ParsesSigned w64 10 w r
    → get_or w 0 0 ≢ 43 → result_ok r ≡ index w
index_gives w r h plain = signed w r (get_or w 0 0 == 45) refl h plain

-- without a minus an index is a number that fits
plain_index : (w : List ℕ) (o : Option ℕ) → get_or w 0 0 ≢ 45 → number w ≡ o
    → index w ≡ option_map pos (o >>= (λ n. if nat_le n (2 ^ 63 - 1) then Some n else None))
plain_index w o plain is =
    ap (λ t. if t then option_map (λ n. neg_ℤ (pos n)) (number_to (2 ^ 63) (drop 1 w))
    else option_map pos (number_to (2 ^ 63 - 1) w)) (ne_eqb _ _ plain)
    ∙ ap (λ p. option_map pos (p >>= (λ n. if nat_le n (2 ^ 63 - 1) then Some n else None))) is

-- a word without a minus that is not a number is not an index
pub no_index : (w : List ℕ) → get_or w 0 0 ≢ 45 → number w ≡ None → index w ≡ None
no_index w plain none = plain_index w None plain none

-- the index of a word that is a number without a minus: that number, if it fits
pub index_of : {E : Type 0} (w : List ℕ) (n : ℕ) (r : Result ℤ E)
    → OkIff r (FitsSigned w64 (pos n)) (pos n) → number w ≡ Some n → get_or w 0 0 ≢ 45
    → result_ok r ≡ index w
index_of w n (Ok i) h is plain =
    ap Some h.1 ∙ sym (plain_index w (Some n) plain is
    ∙ ap (λ t. option_map pos (if t then Some n else None))
    (le-leb n (2 ^ 63 - 1) (omega (arith, h.0))))
index_of w n (Err e) h is plain =
    sym (plain_index w (Some n) plain is
    ∙ ap (λ t. option_map pos (if t then Some n else None))
    (false_from_ne_true (nat_le n (2 ^ 63 - 1))
    (λ t. h (omega (arith, leb-true n (2 ^ 63 - 1) t)))))

-- numbers of few digits, for `#[tactic(auto, using(..))]`
pub ruleset few = (few_fit, few_more, few_same, few_other, few_small, few_below)

-- numbers and indices
pub ruleset numbers = (number_gives, index_gives, index_of, no_index)
