-- Pairs of hexadecimal digits, one after another.
use Rattle.std.proofs.Common.{◌≡◌, ℕ, ◌+◌, ◌*◌, ◌%◌, ◌≤◌, ◌<◌, ◌≢◌, Bool, true, false, ◌&&◌, eqb}
use Rattle.std.proofs.Common.{List, [], ◌∷◌, length, get_or, take, drop, slice_set, refl, sym}
use Rattle.std.proofs.Common.{ap, ◌∙◌, Option, Some, None, arith}
use Rattle.std.specs.Prelude.{is_some}
use Rattle.std.specs.List.{list_all}
use mathlib.Core.List.{append-nil}
use Rattle.std.proofs.lemmas.Bool.{eqb-true, ne_eqb}
use Rattle.std.proofs.lemmas.List.{drop_all, drop_more, take_all, take_more_set}
use Rattle.std.proofs.lemmas.List.Sums.{AllPass-from_list_all}
use Rattle.vb_command.specs.Optional.{◌>>=◌}
use Rattle.vb_command.specs.Hex.{hex_value, hex_pairs, is_digit}
use Rattle.vb_command.proofs.Behind.{behind, behind-next}

-- a pair and the rest write bytes exactly if both digits have a value and the rest write bytes
pair_there : (high low : Option ℕ) (rest : Option (List ℕ)) (even all : Bool)
    → is_some rest ≡ (even && all)
    → is_some ((high >>= (λ x. low >>= (λ y. Some (16 * x + y))))
    >>= (λ byte. rest >>= (λ more. Some (byte ∷ more))))
    ≡ (even && (is_some high && (is_some low && all)))
pair_there None low rest true all same = refl
pair_there None low rest false all same = refl
pair_there (Some x) None rest true all same = refl
pair_there (Some x) None rest false all same = refl
pair_there (Some x) (Some y) None even all same = same
pair_there (Some x) (Some y) (Some more) even all same = same

first : (a b : Bool) → (a && b) ≡ true → a ≡ true
first true b both = refl
first false b both = both

second : (a b : Bool) → (a && b) ≡ true → b ≡ true
second true b both = both
second false b both = absurd (let no : false ≡ true = both in cc)

-- bytes are pairs of digits exactly if all are digits and their number is even
pub is_some-hex_pairs : (digits : List ℕ)
    → is_some (hex_pairs digits) ≡ (eqb (length digits % 2) 0 && list_all is_digit digits)
is_some-hex_pairs [] = refl
is_some-hex_pairs (a ∷ []) = refl
is_some-hex_pairs (a ∷ b ∷ more) =
    let two : length (a ∷ b ∷ more) % 2 ≡ length more % 2 = omega arith in
    pair_there (hex_value a) (hex_value b) (hex_pairs more) (eqb (length more % 2) 0)
    (list_all is_digit more) (is_some-hex_pairs more)
    ∙ ap (λ n. eqb n 0 && list_all is_digit (a ∷ b ∷ more)) (sym two)

-- the digits from a pair on are that pair and the digits after it
drop_pair : (digits : List ℕ) (i : ℕ) → 2 * i + 1 < length digits
    → drop (2 * i) digits
    ≡ get_or digits (2 * i) 0 ∷ get_or digits (2 * i + 1) 0 ∷ drop (2 * (i + 1)) digits
drop_pair digits i within =
    let two : 2 * i + 1 + 1 ≡ 2 * (i + 1) = omega arith in
    rw (drop_more digits (2 * i) 0 (omega arith), drop_more digits (2 * i + 1) 0 within, two) refl

-- a pair that writes a byte
hex_pairs-pair : (a b high low : ℕ) (more : List ℕ)
    → hex_value a ≡ Some high → hex_value b ≡ Some low
    → hex_pairs (a ∷ b ∷ more) ≡ (hex_pairs more >>= (λ rest. Some ((16 * high + low) ∷ rest)))
hex_pairs-pair a b high low more is_high is_low =
    ap (λ x. (x >>= (λ h. hex_value b >>= (λ l. Some (16 * h + l))))
    >>= (λ byte. hex_pairs more >>= (λ rest. Some (byte ∷ rest)))) is_high
    ∙ ap (λ y. (y >>= (λ l. Some (16 * high + l)))
    >>= (λ byte. hex_pairs more >>= (λ rest. Some (byte ∷ rest)))) is_low

-- one more byte is written, that of the next pair
pub pair_written : (digits bytes : List ℕ) (i high low : ℕ)
    → i < length bytes → length digits ≡ 2 * length bytes
    → hex_value (get_or digits (2 * i) 0) ≡ Some high
    → hex_value (get_or digits (2 * i + 1) 0) ≡ Some low
    → hex_pairs digits ≡ behind (take i bytes) (hex_pairs (drop (2 * i) digits))
    → hex_pairs digits ≡ behind (take (i + 1) (slice_set bytes i (16 * high + low)))
    (hex_pairs (drop (2 * (i + 1)) digits))
pair_written digits bytes i high low within size is_high is_low before =
    let rest = drop (2 * (i + 1)) digits in
    let pair = hex_pairs-pair (get_or digits (2 * i) 0) (get_or digits (2 * i + 1) 0) high low rest
    is_high is_low in
    before
    ∙ (ap (λ l. behind (take i bytes) (hex_pairs l)) (drop_pair digits i (omega arith))
    ∙ (ap (behind (take i bytes)) pair
    ∙ (behind-next (take i bytes) (16 * high + low) (hex_pairs rest)
    ∙ ap (λ l. behind l (hex_pairs rest))
    (sym (take_more_set bytes i (16 * high + low) within)))))

-- all bytes are written
pub pairs_written : (digits bytes : List ℕ) (i : ℕ)
    → length bytes ≤ i → length digits ≡ 2 * length bytes
    → hex_pairs digits ≡ behind (take i bytes) (hex_pairs (drop (2 * i) digits))
    → hex_pairs digits ≡ Some bytes
pairs_written digits bytes i end size before =
    before
    ∙ (ap (λ l. behind (take i bytes) (hex_pairs l)) (drop_all (2 * i) digits (omega arith))
    ∙ ap Some (append-nil (take i bytes) ∙ take_all i bytes end))

-- the bytes of pairs are digits
pub pairs_digits : (digits : List ℕ)
    → is_some (hex_pairs digits) ≡ true → list_all is_digit digits ≡ true
pairs_digits digits pairs = second _ _ (sym (is_some-hex_pairs digits) ∙ pairs)

-- the number of digits in pairs is even
pub pairs_even : (digits : List ℕ) → is_some (hex_pairs digits) ≡ true → length digits % 2 ≡ 0
pairs_even digits pairs =
    eqb-true (length digits % 2) 0 (first _ _ (sym (is_some-hex_pairs digits) ∙ pairs))

-- an even number of bytes are pairs exactly if all are digits
pub even_pairs : (digits : List ℕ) → length digits % 2 ≡ 0
    → is_some (hex_pairs digits) ≡ list_all is_digit digits
even_pairs digits even =
    is_some-hex_pairs digits ∙ ap (λ n. eqb n 0 && list_all is_digit digits) even

-- an odd number of bytes are not pairs
pub odd_pairs : (digits : List ℕ) → length digits % 2 ≢ 0 → is_some (hex_pairs digits) ≡ false
odd_pairs digits odd =
    is_some-hex_pairs digits
    ∙ ap (λ b. b && list_all is_digit digits) (ne_eqb (length digits % 2) 0 odd)

-- facts about pairs
pub ruleset pairs = (pairs_digits, pairs_even, even_pairs, odd_pairs)

-- if all bytes are digits, the one at index i is
pub digit_at : (digits : List ℕ) (i : ℕ) → list_all is_digit digits ≡ true → i < length digits
    → is_digit (get_or digits i 0) ≡ true
digit_at digits i all within = AllPass-from_list_all is_digit digits all i 0 within
