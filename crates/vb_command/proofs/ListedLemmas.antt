-- The parts of a word between commas, and the items that they represent.
use Rattle.std.proofs.Common.{◌≡◌, ℕ, ◌+◌, ◌<◌, ◌≤◌, Bool, true, List, [], ◌∷◌, ◌++◌, length}
use Rattle.std.proofs.Common.{false, cond, codes, refl, ap, ◌∙◌, Option, Some, None, arith}
use Rattle.std.specs.List.{slice_split, position_or_len, before_first, after_first}
use Rattle.std.specs.Option.{option_map}
use Rattle.std.specs.Str.{bytes_eq}
use Rattle.std.proofs.lemmas.List.Splits.{slice_split_first, slice_split_none, length-slice_split}
use Rattle.std.proofs.lemmas.List.Sums.{count_by-le-length, fails_before_first}
use Rattle.vb_command.specs.Listed.{is_comma, parts, all_written}
use Rattle.vb_command.specs.Optional.{◌>>=◌}
use Rattle.vb_command.proofs.Behind.{behind, behind-next}

-- the first part ends at the first comma
pub split-comma : (text : List ℕ) → position_or_len is_comma text < length text
    → slice_split is_comma text
    ≡ before_first is_comma text ∷ slice_split is_comma (after_first is_comma text)
split-comma text comma = slice_split_first is_comma text 0 comma

-- a text without a comma is one part
pub split-last : (text : List ℕ) → position_or_len is_comma text ≡ length text
    → slice_split is_comma text ≡ text ∷ []
split-last text last =
    slice_split_none is_comma text
    (λ k d lt. fails_before_first is_comma text k d (omega arith))

-- the parts of a text, for `#[tactic(auto, using(..))]`
pub ruleset splits = (split-comma, split-last)

module _ {X : Type 0} (f : List ℕ → Option X) where
  -- an item before others
  abbrev onto : Option (List X) → X → Option (List X)
  onto more x = more >>= (λ xs. Some (x ∷ xs))

  -- a part that writes no item
  pub all_written-none : (part : List ℕ) (more : List (List ℕ))
      → f part ≡ None → all_written f (part ∷ more) ≡ None
  all_written-none part more none = ap (λ o. o >>= onto (all_written f more)) none

  -- a part that writes an item
  pub all_written-some : (part : List ℕ) (more : List (List ℕ)) (x : X)
      → f part ≡ Some x → all_written f (part ∷ more) ≡ onto (all_written f more) x
  all_written-some part more x some = ap (λ o. o >>= onto (all_written f more)) some

  -- the number of items, if the first k are counted already
  abbrev pub counted : ℕ → List (List ℕ) → Option ℕ
  counted k more = option_map (λ xs. k + length xs) (all_written f more)

  counted-none : (items : Option (List X))
      → option_map length items ≡ option_map (λ xs. 0 + length xs) items
  counted-none None = refl
  counted-none (Some xs) = ap Some (omega arith)

  -- no items are counted yet
  pub counted-start : (some : List (List ℕ))
      → option_map length (all_written f some) ≡ counted 0 some
  counted-start some = counted-none (all_written f some)

  counted-onto : (k : ℕ) (more : Option (List X)) (x : X)
      → option_map (λ xs. k + length xs) (onto more x) ≡ option_map (λ xs. k + 1 + length xs) more
  counted-onto k None x = refl
  counted-onto k (Some xs) x = ap Some (omega arith)

  -- one more item is counted
  pub counted-next : (k : ℕ) (part : List ℕ) (more : List (List ℕ)) (x : X)
      → f part ≡ Some x → counted k (part ∷ more) ≡ counted (k + 1) more
  counted-next k part more x some =
      ap (option_map (λ xs. k + length xs)) (all_written-some part more x some)
      ∙ counted-onto k (all_written f more) x

  -- one more item is read
  pub read-next : (front : List X) (part : List ℕ) (more : List (List ℕ)) (x : X)
      → f part ≡ Some x
      → behind front (all_written f (part ∷ more)) ≡ behind (front ++ x ∷ []) (all_written f more)
  read-next front part more x some =
      ap (behind front) (all_written-some part more x some)
      ∙ behind-next front x (all_written f more)

shorter : {X : Type 0} (b : Bool) (xs : List X) → length (cond b [] xs) ≤ length xs
shorter true xs = omega arith
shorter false xs = omega arith

-- a word has at most one more part than it has bytes
pub length-parts : (w : List ℕ) → length (parts w) ≤ length w + 1
length-parts w = omega (
  arith,
  shorter (bytes_eq w (codes "-")) (slice_split is_comma w),
  length-slice_split is_comma w,
  count_by-le-length is_comma w,
)

-- the number of items, for `#[tactic(auto, using(..))]`
pub ruleset counts = (counted-start, counted-next, all_written-none, length-parts)
