-- Parts of a list, from one index to another.
use Rattle.std.proofs.Common.{◌≡◌, ℕ, ◌+◌, ◌-◌, ◌≤◌, Bool, List, ◌++◌, length, take, drop, sym, ap}
use Rattle.std.proofs.Common.{◌∙◌, arith, zero-add}
use Rattle.std.specs.List.{copy_within, position_or_len}
use Rattle.std.proofs.Math.Seq.{take-add}
use Rattle.std.proofs.lemmas.List.{drop-take, length-drop}
use Rattle.std.proofs.lemmas.List.Edits.{take-paste, length-paste}
use Rattle.vb_script.proofs.Searches.{position_or_len-le, position_or_len-le-append, position-drop}

-- the part from s to e is the first e items without the first s
pub part_behind : (xs : List ℕ) (s e : ℕ) → s ≤ e → take (e - s) (drop s xs) ≡ drop s (take e xs)
part_behind xs s e le =
    let same : s + (e - s) ≡ e = omega arith in
    sym (drop-take s (e - s) xs) ∙ ap (λ n. drop s (take n xs)) same

-- a part that was moved to the start is there
pub part_moved : (xs : List ℕ) (s e : ℕ) → s ≤ e → e ≤ length xs
    → take (e - s) (copy_within xs s e 0) ≡ drop s (take e xs)
part_moved xs s e le within =
    let size : e - s ≤ length (drop s xs) = omega (arith, length-drop s xs) in
    ap (λ n. take n (copy_within xs s e 0)) (sym (zero-add (e - s)))
    ∙ (take-paste xs 0 (drop s xs) (e - s) (omega arith) size ∙ part_behind xs s e le)

-- the length does not change
pub length-part_moved : (xs : List ℕ) (s e : ℕ) → s ≤ e → e ≤ length xs
    → length (copy_within xs s e 0) ≡ length xs
length-part_moved xs s e le within = length-paste xs 0 (drop s xs) (e - s) (omega arith)
    (omega (arith, length-drop s xs))

-- the items after a part extend it
pub part_longer : (xs : List ℕ) (e n : ℕ) → take (e + n) xs ≡ take e xs ++ take n (drop e xs)
part_longer xs e n = take-add e n xs

-- the bytes that were searched for a line feed stay searched when the part grows
pub searched_longer : (p : ℕ → Bool) (old xs : List ℕ) (e n searched : ℕ) → take e xs ≡ old
    → searched ≤ position_or_len p old → searched ≤ position_or_len p (take (e + n) xs)
searched_longer p old xs e n searched front before =
    let longer : take (e + n) xs ≡ old ++ take n (drop e xs) = part_longer xs e n
    ∙ ap (λ l. l ++ take n (drop e xs)) front in
    rw longer (omega (arith, position_or_len-le-append p old (take n (drop e xs))))

-- parts that are moved, cut and searched for a line feed, for `#[tactic(auto, using(..))]`
pub ruleset parts = (part_behind, part_moved, length-part_moved, position_or_len-le, position-drop)

-- the same for parts that grow
pub ruleset filled = (part_longer, position_or_len-le, position_or_len-le-append)
