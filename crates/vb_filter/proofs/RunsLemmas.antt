-- The lowest run of ones of a word, and the values that it selects.
use Rattle.std.proofs.Common.{◌≡◌, ℕ, zero, suc, ◌+◌, ◌-◌, ◌^◌, ◌<◌, ◌≤◌, inl, inr, Bool, true}
use Rattle.std.proofs.Common.{false, List, [], ◌∷◌, ◌++◌, length, take, drop, replicate, refl, sym}
use Rattle.std.proofs.Common.{ap, ◌∙◌, arith, zero-add, length-append, get_or-take, get_or-drop}
use Rattle.std.proofs.lemmas.Bool.{cases_lt}
use Rattle.std.proofs.lemmas.List.{same_lists, length-replicate, get_or-replicate, length-take}
use Rattle.std.proofs.lemmas.List.{length-drop, take-append-drop, drop-drop}
use Rattle.vb_bits.specs.Digits.{has_bit, digits}
use Rattle.vb_bits.specs.Kept.{kept_by}
use Rattle.vb_bits.proofs.DigitsLemmas.{digits-add, length-digits, at-digits, same_digits}
use Rattle.vb_bits.proofs.KeptLemmas.{kept_by-append}
use Rattle.vb_filter.proofs.FilteredBits.{kept_none}
use Rattle.vb_pack.proofs.WordsLemmas.{has_bit_above}
use Rattle.vb_walk.specs.Ones.{CutsOnes}

-- a mask that is true selects all
kept_true : {T : Type 0} (n : ℕ) (xs : List T) → length xs ≡ n → kept_by (replicate n true) xs ≡ xs
kept_true zero [] same = refl
kept_true zero (x ∷ xs) same = absurd (omega arith)
kept_true (suc n) [] same = absurd (omega arith)
kept_true (suc n) (x ∷ xs) same = ap (λ ys. x ∷ ys) (kept_true n xs (omega arith))

-- bits that are all the same
pub digits_same : (w s k : ℕ) (v : Bool) → ((i : ℕ) → i < k → has_bit w (s + i) ≡ v)
    → digits w s k ≡ replicate k v
digits_same w s k v h =
    same_lists (digits w s k) (replicate k v) (length-digits w s k ∙ sym (length-replicate k v))
    (λ i d below.
    let here : i < k = omega (arith, length-digits w s k) in
    at-digits w s k i d here ∙ h i here ∙ sym (get_or-replicate k i v d here))

module _ (w a b rest n : ℕ) (some : a < b) (below : (i : ℕ) → i < a → has_bit w i ≡ false)
    (cut : CutsOnes w a b rest) (clear : w < 2 ^ n) (few : n ≤ 64) where
  -- the run is within the n bits
  pub run_within : b ≤ n
  run_within = elim (cases_lt n b) [
    | inl past ↦
        let top : has_bit w (b - 1) ≡ true = cut.ones (b - 1) (omega arith) (omega arith) in
        let none : has_bit w (b - 1) ≡ false = has_bit_above w n (b - 1) clear (omega arith) in
        let both : true ≡ false = sym top ∙ none in
        cc
    | inr inside ↦ inside
  ]

  -- the bits, cut at the run
  digits_cut : digits w 0 n
      ≡ replicate a false ++ (replicate (b - a) true ++ digits w b (n - b))
  digits_cut =
      let inside = run_within in
      let all : n ≡ a + (b - a + (n - b)) = omega arith in
      let place : 0 + a + (b - a) ≡ b = omega arith in
      ap (digits w 0) all ∙ digits-add w 0 a (b - a + (n - b))
      ∙ ap (λ l. l ++ digits w (0 + a) (b - a + (n - b)))
      (digits_same w 0 a false (λ i h. ap (has_bit w) (zero-add i) ∙ below i h))
      ∙ ap (λ l. replicate a false ++ l) (digits-add w (0 + a) (b - a) (n - b)
      ∙ ap (λ l. l ++ digits w (0 + a + (b - a)) (n - b))
      (digits_same w (0 + a) (b - a) true (λ i h. cut.ones (0 + a + i) (omega arith) (omega arith)))
      ∙ ap (λ k. replicate (b - a) true ++ digits w k (n - b)) place)

  -- the bits without the run
  digits_rest : digits rest 0 n ≡ replicate b false ++ digits w b (n - b)
  digits_rest =
      let inside = run_within in
      let all : n ≡ b + (n - b) = omega arith in
      let place : 0 + b ≡ b = omega arith in
      ap (digits rest 0) all ∙ digits-add rest 0 b (n - b)
      ∙ ap (λ l. l ++ digits rest (0 + b) (n - b))
      (digits_same rest 0 b false (λ i h. ap (has_bit rest) (zero-add i) ∙ cut.gone i h))
      ∙ ap (λ l. replicate b false ++ l) (ap (λ k. digits rest k (n - b)) place
      ∙ same_digits rest w b b (n - b) (λ i h. cut.kept (b + i) (omega arith) (omega arith)))

  -- the word selects the values of the run, and then those at its other ones
  pub kept_run : {T : Type 0} (xs : List T) → length xs ≡ n
      → kept_by (digits w 0 n) xs
      ≡ take (b - a) (drop a xs) ++ kept_by (digits rest 0 n) xs
  kept_run xs same =
      let inside = run_within in
      let ends : List Bool = digits w b (n - b) in
      let run = take (b - a) (drop a xs) in
      let end = drop b xs in
      let long : length run ≡ b - a = simp (length-take, length-drop) (omega arith) in
      let front : length (take a xs) ≡ a = simp (length-take) (omega arith) in
      let whole : length (take b xs) ≡ b = simp (length-take) (omega arith) in
      let place : a + (b - a) ≡ b = omega arith in
      let cut_in_three : xs ≡ take a xs ++ (run ++ end) =
      sym (take-append-drop a xs) ∙ ap (λ l. take a xs ++ l)
      (sym (take-append-drop (b - a) (drop a xs)) ∙ ap (λ l. run ++ l)
      (drop-drop (b - a) a xs ∙ ap (λ k. drop k xs) place)) in
      let of_word : kept_by (digits w 0 n) xs ≡ run ++ kept_by ends end =
      ap (λ l. kept_by l xs) digits_cut
      ∙ ap (kept_by (replicate a false ++ (replicate (b - a) true ++ ends))) cut_in_three
      ∙ kept_by-append (replicate a false) (replicate (b - a) true ++ ends) (take a xs)
      (run ++ end) (length-replicate a false ∙ sym front)
      ∙ ap (λ l. l ++ kept_by (replicate (b - a) true ++ ends) (run ++ end))
      (kept_none a (take a xs))
      ∙ kept_by-append (replicate (b - a) true) ends run end
      (length-replicate (b - a) true ∙ sym long)
      ∙ ap (λ l. l ++ kept_by ends end) (kept_true (b - a) run long) in
      let of_rest : kept_by (digits rest 0 n) xs ≡ kept_by ends end =
      ap (λ l. kept_by l xs) digits_rest
      ∙ ap (kept_by (replicate b false ++ ends)) (sym (take-append-drop b xs))
      ∙ kept_by-append (replicate b false) ends (take b xs) end
      (length-replicate b false ∙ sym whole)
      ∙ ap (λ l. l ++ kept_by ends end) (kept_none b (take b xs)) in
      of_word ∙ ap (λ l. run ++ l) (sym of_rest)

  -- their number is the length of the run plus the number of the values at the other ones
  pub length-kept_run : {T : Type 0} (xs : List T) → length xs ≡ n
      → length (kept_by (digits w 0 n) xs) ≡ b - a + length (kept_by (digits rest 0 n) xs)
  length-kept_run xs same =
      let inside = run_within in
      let run = take (b - a) (drop a xs) in
      let long : length run ≡ b - a = simp (length-take, length-drop) (omega arith) in
      ap length (kept_run xs same) ∙ length-append run (kept_by (digits rest 0 n) xs)
      ∙ ap (λ k. k + length (kept_by (digits rest 0 n) xs)) long

-- a range of the bits of a word
pub part_of_digits : (w a k : ℕ) → a + k ≤ 64 → take k (drop a (digits w 0 64)) ≡ digits w a k
part_of_digits w a k inside =
    let all : List Bool = digits w 0 64 in
    let many = length-digits w 0 64 in
    let long : length (take k (drop a all)) ≡ k = simp (length-take, length-drop) (omega arith) in
    same_lists (take k (drop a all)) (digits w a k) (long ∙ sym (length-digits w a k))
    (λ i d below.
    let here : i < k = omega arith in
    get_or-take k (drop a all) i d here ∙ get_or-drop a all i d
    ∙ at-digits w 0 64 (a + i) d (omega arith) ∙ ap (has_bit w) (zero-add (a + i))
    ∙ sym (at-digits w a k i d here))
