-- Searches that continue where an earlier one ended.
use Rattle.std.proofs.Common.{◌≡◌, ℕ, zero, suc, ◌+◌, ◌<◌, ◌≤◌, Bool, true, false, cond, List, []}
use Rattle.std.proofs.Common.{take, get_or}
use Rattle.std.proofs.Common.{◌∷◌, ◌++◌, length, drop, sym, ap, ◌∙◌, Option, Some, None, arith}
use Rattle.std.proofs.Common.{lt-ltb, ⊎_elim}
use Rattle.std.specs.Prelude.{position, option_map}
use Rattle.std.specs.List.{prefix_len, position_or_len}
use Rattle.std.proofs.lemmas.Bool.{cases_lt, false_from_ne_true, le-ltb}
use Rattle.std.proofs.lemmas.List.{length-drop, length-take-le, get_or-take}
use Rattle.std.proofs.lemmas.List.Sums.{position_or_len_is, prefix_len-le-length}
use Rattle.std.proofs.lemmas.List.Sums.{fails_before_first, passes_at_first}
use Rattle.memchr.specs.Find.{IsFirstByte}

drop_one : (p : ℕ → Bool) (b : Bool) (x : ℕ) (xs : List ℕ) (n : ℕ)
    → (n ≤ prefix_len p xs → n + prefix_len p (drop n xs) ≡ prefix_len p xs)
    → suc n ≤ cond b (1 + prefix_len p xs) 0 → suc n + prefix_len p (drop n xs) ≡ cond b
    (1 + prefix_len p xs) 0
drop_one p true x xs n rest h = let r = rest (omega arith) in omega arith
drop_one p false x xs n rest h = absurd (omega arith)

-- the prefix that passes, without its first elements
prefix_len-drop : (p : ℕ → Bool) (xs : List ℕ) (n : ℕ) → n ≤ prefix_len p xs
    → n + prefix_len p (drop n xs) ≡ prefix_len p xs
prefix_len-drop p xs zero h = omega arith
prefix_len-drop p [] (suc n) h = absurd (omega arith)
prefix_len-drop p (x ∷ xs) (suc n) h = drop_one p (p x) x xs n (prefix_len-drop p xs n) h

append_one : (b : Bool) (m n : ℕ) → m ≤ n → cond b (1 + m) 0 ≤ cond b (1 + n) 0
append_one true m n h = omega arith
append_one false m n h = omega arith

-- appending elements does not shorten the prefix that passes
prefix_len-le-append : (p : ℕ → Bool) (xs ys : List ℕ) → prefix_len p xs ≤ prefix_len p (xs ++ ys)
prefix_len-le-append p [] ys = omega arith
prefix_len-le-append p (x ∷ xs) ys = append_one (p x) (prefix_len p xs) (prefix_len p (xs ++ ys))
    (prefix_len-le-append p xs ys)

-- the prefix that was searched is not longer than the list
pub position_or_len-le : (p : ℕ → Bool) (xs : List ℕ) → position_or_len p xs ≤ length xs
position_or_len-le p xs = prefix_len-le-length _ xs

-- appending elements does not shorten the prefix that was searched
pub position_or_len-le-append : (p : ℕ → Bool) (xs ys : List ℕ)
    → position_or_len p xs ≤ position_or_len p (xs ++ ys)
position_or_len-le-append p xs ys = prefix_len-le-append _ xs ys

-- a search that ends before the end of the list
position_before : (p : ℕ → Bool) (xs : List ℕ) → position_or_len p xs < length xs
    → position p xs ≡ Some (position_or_len p xs)
position_before p xs h = ap (λ b. cond b (Some (position_or_len p xs)) None)
    (lt-ltb (position_or_len p xs) (length xs) h)

-- a search that ends at the end of the list
position_past : (p : ℕ → Bool) (xs : List ℕ) → length xs ≤ position_or_len p xs
    → position p xs ≡ None
position_past p xs h = ap (λ b. cond b (Some (position_or_len p xs)) None)
    (le-ltb (position_or_len p xs) (length xs) h)

-- a search after the searched prefix finds what a search of the whole list finds
pub position-drop : (p : ℕ → Bool) (xs : List ℕ) (n : ℕ) → n ≤ position_or_len p xs
    → position p xs ≡ option_map (λ k. n + k) (position p (drop n xs))
position-drop p xs n h =
    let there = prefix_len-drop _ xs n h in
    let le = position_or_len-le p xs in
    let len = length-drop n xs in
    ⊎_elim
    (λ before. position_before p xs before ∙ sym (ap (option_map (λ k. n + k))
    (position_before p (drop n xs) (omega arith)) ∙ ap Some there))
    (λ past. position_past p xs past ∙ sym (ap (option_map (λ k. n + k))
    (position_past p (drop n xs) (omega arith))))
    (cases_lt (position_or_len p xs) (length xs))

-- the first index whose byte passes
pub position-IsFirstByte : (p : ℕ → Bool) (xs : List ℕ) (r : Option ℕ) → IsFirstByte p xs r
    → r ≡ position p xs
position-IsFirstByte p xs None h =
    let all : position_or_len p xs ≡ length xs = position_or_len_is p xs (length xs) 0 (omega arith)
    (λ k lt. false_from_ne_true _ (h k (omega arith) lt)) (λ lt. absurd (omega (arith, lt))) in
    sym (position_past p xs (omega (arith, all)))
position-IsFirstByte p xs (Some k) h =
    let here : position_or_len p xs ≡ k = position_or_len_is p xs k 0 (omega (arith, h.0.high))
    (λ i lt. false_from_ne_true _ (h.0.before i (omega arith) lt)) (λ lt. h.1) in
    sym (position_before p xs (omega (arith, here, h.0.high)) ∙ ap Some here)

-- a search of a first part that ends within it
pub position-near : (p : ℕ → Bool) (xs : List ℕ) (n k : ℕ) → n ≤ length xs
    → k ≡ position_or_len p (take n xs) → k < n → Some k ≡ position p xs
position-near p xs n k within is lt =
    let front : List ℕ = take n xs in
    let size : length front ≡ n = length-take-le n xs within in
    let inside : position_or_len p front < length front = omega (arith, is) in
    let there : p (get_or front k 0) ≡ true = rw is (passes_at_first p front 0 inside) in
    let here : position_or_len p xs ≡ k = position_or_len_is p xs k 0 (omega arith)
    (λ i less. ap p (sym (get_or-take n xs i 0 (omega arith)))
    ∙ fails_before_first p front i 0 (omega (arith, is)))
    (λ _. ap p (sym (get_or-take n xs k 0 lt)) ∙ there) in
    sym (position_before p xs (omega (arith, here)) ∙ ap Some here)

-- searches for a line feed, for `#[tactic(auto, using(..))]`
pub ruleset searches = (position_or_len-le, position_or_len-le-append, position-drop)

-- the same for the result of `memchr`
pub ruleset first_byte = (position-IsFirstByte, position_or_len-le, position-near)
