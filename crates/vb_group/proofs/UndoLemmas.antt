-- Rows that are added and taken back.
use Rattle.std.proofs.Common.{◌≡◌, ◌≢◌, ℕ, ◌≤◌, ℤ, Bool, true, false, List, [], ◌∷◌, length}
use Rattle.std.proofs.Common.{get_or, refl, ap, ◌∙◌, arith}
use Rattle.std.specs.Option.{ForSome}
use Rattle.std.specs.Prelude.{Option, Some, None, IfSome, IfNone}
use Rattle.std.proofs.lemmas.Bool.{false≢true}
use Rattle.std.specs.List.{fold}
use Rattle.std.proofs.lemmas.List.{same_lists}
use Rattle.vb_group.specs.Groups.{AddsRows, TriesRows, values_of}

module _ {V T : Type 0} (plus minus : T → V → T) (is_total : T → Type 0)
    (undoes : (total : T) (value : V) → is_total total → minus (plus total value) value ≡ total)
    (commutes : (total : T) (value back : V)
    → minus (plus total value) back ≡ plus (minus total back) value) where
  -- one value is taken back before others are added
  before : (values : List V) (total : T) (back : V)
      → minus (fold plus total values) back ≡ fold plus (minus total back) values
  before [] total back = refl
  before (v ∷ values) total back =
      before values (plus total v) back ∙ ap (λ t. fold plus t values) (commutes total v back)

  -- the same values are added and taken back
  taken_back : (values : List V) (total : T) → (values ≢ [] → is_total total)
      → fold minus (fold plus total values) values ≡ total
  taken_back [] total in_type = refl
  taken_back (v ∷ values) total in_type =
      let here : is_total total = in_type (λ none. absurd (omega (arith, ap length none))) in
      ap (λ t. fold minus t values) (before values (plus total v) v
      ∙ ap (λ t. fold plus t values) (undoes total v here))
      ∙ taken_back values total (λ some. here)

  -- the same rows
  pub restores : {C : Type 0} (number : C → ℤ) (skips good : Bool) (start mid new : List T)
      (rows : List (C × V)) → TriesRows number plus is_total skips start mid rows good
      → AddsRows number minus mid new rows → new ≡ start
  restores number skips good start mid new rows added back =
      let long : length new ≡ length start = back.same_len ∙ added.adds.same_len in
      same_lists new start long (λ g d inside.
      back.each g d (omega (arith, inside, back.same_len))
      ∙ ap (λ t. fold minus t (values_of number g rows))
      (added.adds.each g d (omega (arith, inside, long)))
      ∙ taken_back (values_of number g rows) (get_or start g d)
      (λ some. added.in_type g d (omega (arith, inside, long)) some))

-- an addition that passes over rows without a total never stops early
pub all_taken : {C V T : Type 0} (minus : T → V → T) (is_total : T → Type 0) (number : C → ℤ)
    (old new : List T) (rows : List (C × V)) (few : ℕ → List (C × V)) (rest : Option ℕ)
    → IfNone rest (TriesRows number minus is_total true old new rows true)
    → IfSome rest (λ n. TriesRows number minus is_total true old new (few n) false)
    → AddsRows number minus old new rows
all_taken minus is_total number old new rows few None all front = all.adds
all_taken minus is_total number old new rows few (Some n) all front =
    absurd (false≢true (front.passes refl))

-- if n is at most k, it is at most the length of a mask of length k
pub no_more : {M : Type 0} (len : M → ℕ) (n k : ℕ) → n ≤ k → (mask : Option M)
    → ForSome mask (λ m. len m ≡ k) → ForSome mask (λ m. n ≤ len m)
no_more len n k within mask same = λ m is. let long = same m is in omega (arith, within, long)
