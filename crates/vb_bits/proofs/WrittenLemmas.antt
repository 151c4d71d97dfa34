-- Writes of truth values in order, as bits in bytes and digits in words.
use Rattle.std.proofs.Common.{◌≡◌, ℕ, ◌+◌, ◌-◌, ◌<◌, ◌≤◌, ◌⊎◌, inl, inr, Bool, List, ◌++◌}
use Rattle.std.proofs.Common.{length, get_or, refl, sym, ap, subst, ◌∙◌, arith}
use Rattle.std.proofs.lemmas.Bool.{cases_lt}
use Rattle.std.proofs.lemmas.List.{same_lists, append_assoc, length-append, get_or_append_left}
use Rattle.std.proofs.lemmas.List.{get_or-append_right}

-- the window of n values from value o on has them, in order
pub record IsWindowed {B : Type 0} (value : B → ℕ → Bool) (window : B → ℕ → ℕ → List Bool)
    : Type 0 where
  pub len : (b : B) (o n : ℕ) → length (window b o n) ≡ n
  pub at : (b : B) (o n i : ℕ) (d : Bool) → i < n → get_or (window b o n) i d ≡ value b (o + i)

-- the window from value o on is the list m, and every other value is unchanged
pub record Written {B : Type 0} (value : B → ℕ → Bool) (window : B → ℕ → ℕ → List Bool)
    (old new : B) (o : ℕ) (m : List Bool) : Type 0 where
  pub window_is : window new o (length m) ≡ m
  pub others : (i : ℕ) → (i < o) ⊎ (o + length m ≤ i) → value new i ≡ value old i

module _ {B : Type 0} (value : B → ℕ → Bool) (window : B → ℕ → ℕ → List Bool)
    (windowed : IsWindowed value window) where
  -- a write, given value by value
  pub Written_by_values : (b c : B) (o : ℕ) (m : List Bool)
      → ((i : ℕ) (d : Bool) → i < length m → value c (o + i) ≡ get_or m i d)
      → ((i : ℕ) → (i < o) ⊎ (o + length m ≤ i) → value c i ≡ value b i)
      → Written value window b c o m
  Written_by_values b c o m inside others = record {
    window_is = same_lists _ _ (windowed.len c o (length m))
        (λ i d l.
        let within : i < length m = omega (arith, windowed.len c o (length m)) in
        windowed.at c o (length m) i d within ∙ inside i d within);
    others = others;
  }

  -- a value that was written
  pub Written-at : (b c : B) (o i : ℕ) (m : List Bool) (d : Bool) → Written value window b c o m
      → i < length m → value c (o + i) ≡ get_or m i d
  Written-at b c o i m d w h =
      sym (windowed.at c o (length m) i d h) ∙ ap (λ l. get_or l i d) w.window_is

  -- two adjacent writes are one
  pub Written-add : (b c d : B) (o p : ℕ) (l m : List Bool) → p ≡ o + length l
      → Written value window b c o l → Written value window c d p m
      → Written value window b d o (l ++ m)
  Written-add b c d o p l m place one two =
      let whole : length (l ++ m) ≡ length l + length m = length-append l m in
      Written_by_values b d o (l ++ m)
      (λ i e h. elim (cases_lt i (length l)) [
        | inl front ↦
            two.others (o + i) (inl (omega arith)) ∙ Written-at b c o i l e one front
            ∙ sym (get_or_append_left l m e i front)
        | inr behind ↦
            let there : p + (i - length l) ≡ o + i = omega arith in
            ap (value d) (sym there)
            ∙ Written-at c d p (i - length l) m e two (omega arith)
            ∙ sym (get_or-append_right l m (length l) i e refl behind)
      ])
      (λ i h.
      two.others i (elim h [ inl low ↦ inl (omega arith) | inr high ↦ inr (omega arith) ])
      ∙ one.others i (elim h [ inl low ↦ inl low | inr high ↦ inr (omega arith) ]))

  -- the front of a written list
  pub Written-front : (b c : B) (o n : ℕ) (l m : List Bool) → Written value window b c o (l ++ m)
      → n ≡ length l → window c o n ≡ l
  Written-front b c o n l m w e =
      same_lists _ _ (windowed.len c o n ∙ e)
      (λ i d h.
      let inside : i < n = omega (arith, windowed.len c o n) in
      let whole : i < length (l ++ m) = omega (arith, length-append l m) in
      windowed.at c o n i d inside ∙ Written-at b c o i (l ++ m) d w whole
      ∙ get_or_append_left l m d i (omega arith))

  -- a window, and the list written after it
  pub Written-more : (b c d : B) (o p m k : ℕ) (l : List Bool) → p ≡ o + m → k ≡ m + length l
      → Written value window b c o (window c o m) → Written value window c d p l
      → (window d o k ≡ window c o m ++ l) × Written value window b d o (window d o k)
  Written-more b c d o p m k l place whole first second =
      let front = window c o m in
      let long = windowed.len c o m in
      let both = Written-add b c d o p front l (omega arith) first second in
      let size : length (front ++ l) ≡ k = omega (arith, length-append front l) in
      let is : window d o k ≡ front ++ l = ap (window d o) (sym size) ∙ both.window_is in
      (is, subst (Written value window b d o) (sym is) both)

  -- the same if one more list is written after it
  pub Written-ended : (b c d : B) (o p m n : ℕ) (l more : List Bool) → p ≡ o + m
      → n ≡ m + length l → Written value window b c o (window c o m)
      → Written value window c d p (l ++ more)
      → (window d o n ≡ window c o m ++ l) × Written value window b d o (window d o n ++ more)
  Written-ended b c d o p m n l more place whole first second =
      let front = window c o m in
      let long = windowed.len c o m in
      let both : Written value window b d o ((front ++ l) ++ more) =
      subst (Written value window b d o) (sym (append_assoc front l more))
      (Written-add b c d o p front (l ++ more) (omega arith) first second) in
      let is : window d o n ≡ front ++ l =
      Written-front b d o n (front ++ l) more both (omega (arith, length-append front l)) in
      (is, subst (λ k. Written value window b d o (k ++ more)) (sym is) both)
