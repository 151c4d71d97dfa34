-- The text of truth values, extended by one value.
use Rattle.std.proofs.Common.{◌≡◌, ℕ, ◌+◌, ◌<◌, min, Bool, List, [], ◌∷◌, ◌++◌, length, take}
use Rattle.std.proofs.Common.{slice_get, Some, codes, decimal, ap, ◌∙◌, sym, refl, arith}
use Rattle.std.proofs.Common.{append_assoc}
use Rattle.std.proofs.lemmas.List.{take_more, append-nil, length-take, take_min}
use Rattle.std.proofs.lemmas.Grind.{flat_map-append}
use Rattle.std.proofs.lemmas.Option.{get_or_from_slice_get}
use Rattle.std.specs.List.{flat_map}
use Rattle.vb_bits.specs.Shown.{truth_word, truth_words, bits_text}

-- the first word has no separator before it; each other word has a comma and a space before it
words_push : (xs : List Bool) (b : Bool) (gap : List ℕ) → (length xs ≡ 0 → gap ≡ [])
    → (0 < length xs → gap ≡ codes ", ")
    → truth_words (xs ++ b ∷ []) ≡ truth_words xs ++ (gap ++ truth_word b)
words_push [] b gap first other =
    append-nil (truth_word b) ∙ ap (λ g. g ++ truth_word b) (sym (first refl))
words_push (x ∷ xs) b gap first other =
    let next : Bool → List ℕ = λ c. codes ", " ++ truth_word c in
    ap (λ t. truth_word x ++ t)
    (flat_map-append next xs (b ∷ []) ∙ ap (λ t. flat_map next xs ++ t) (append-nil (next b)))
    ∙ sym (append_assoc (truth_word x) (flat_map next xs) (next b))
    ∙ ap (λ g. truth_words (x ∷ xs) ++ (g ++ truth_word b)) (sym (other (omega arith)))

pub words_more : (xs : List Bool) (i : ℕ) (b : Bool) (gap : List ℕ) → slice_get xs i ≡ Some b
    → i < length xs → (i ≡ 0 → gap ≡ []) → (0 < i → gap ≡ codes ", ")
    → truth_words (take i xs) ++ (gap ++ truth_word b) ≡ truth_words (take (i + 1) xs)
words_more xs i b gap s h first other =
    let n : length (take i xs) ≡ i = omega (arith, length-take i xs) in
    sym (ap truth_words
    (take_more xs i b h ∙ ap (λ v. take i xs ++ v ∷ []) (get_or_from_slice_get xs i b b s))
    ∙ words_push (take i xs) b gap (λ e. first (omega arith)) (λ l. other (omega arith)))

-- the head, the first words and the tail, in the order in which they are written
pub shown_parts : (xs : List Bool) (i : ℕ) → i ≡ min 16 (length xs)
    → ((codes "BitBuffer { len: " ++ (decimal (length xs) ++ codes ", buffer: ["))
    ++ truth_words (take i xs)) ++ codes "] }" ≡ bits_text xs
unfolding bits_text
shown_parts xs i e =
    let head : List ℕ =
    codes "BitBuffer { len: " ++ (decimal (length xs) ++ codes ", buffer: [") in
    let whole : List ℕ → List ℕ = λ words. (head ++ words) ++ codes "] }" in
    ap (λ k. whole (truth_words (take k xs))) e
    ∙ ap (λ ys. whole (truth_words ys)) (take_min 16 xs)
    ∙ ap (λ t. (t ++ truth_words (take 16 xs)) ++ codes "] }")
    (sym (append_assoc (codes "BitBuffer { len: ") (decimal (length xs)) (codes ", buffer: [")))
