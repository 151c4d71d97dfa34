-- Reads from the front, part by part. The law of `AlignedBuf` cites these lemmas, so they are in
-- specs.
use Rattle.std.proofs.Common.{◌≡◌, ℕ, ◌+◌, ◌%◌, ◌^◌, ◌<◌, List, length, drop}
use Rattle.std.proofs.Common.{slice_range, refl, sym, subst, ap, ◌∙◌, arith}
use Rattle.std.proofs.Math.Nat.{dvd-add}
use Rattle.std.proofs.lemmas.List.{drop-drop, take_all, length-drop}
use Rattle.std.proofs.lemmas.Nat.Gcd.{dvd-zero, dvd_of_mod-eq-zero, mod-eq-zero_of_dvd}
use Rattle.std.specs.declared.ops.Range.{Range}
use Rattle.vb_mem.specs.SharedBuffer.{SharedBuffer, ShowsPart}

-- a value can skip 0 bytes, and two consecutive steps are one step: the rest after both is the rest
-- after the sum of their bytes
pub record AreSteps {S : Type 0} (is_step : S → ℕ → Type 0)
    (is_past : S → ℕ → S → Type 0) : Type 0 where
  pub none : (s : S) → is_step s 0
  pub sum : (s : S) (a b : ℕ) → is_step s a → is_step s b → is_step s (a + b)
  pub past_none : (s : S) → is_past s 0 s
  pub past_sum : (s t u : S) (a b : ℕ) → is_past s a t → is_past t b u → is_past s (a + b) u

-- a value that shows a list can skip any number of bytes
pub list_steps : {S : Type 0} (unread : S → List ℕ)
    → AreSteps {S = S} (λ _ _. Unit {0}) (λ s n rest. unread rest ≡ drop n (unread s))
list_steps unread = record {
  none = λ s. tt;
  sum = λ s a b _ _. tt;
  past_none = λ s. refl;
  past_sum = λ s t u a b one two. two ∙ ap (drop b) one ∙ drop-drop b a (unread s);
}

-- the range of a buffer from an index to its end
abbrev pub rest_of : SharedBuffer ℕ → ℕ → Range ℕ
rest_of b n = record { start = n; end = length b.list }

-- the range of a list from an index to its end is the rest of the list
to_end : (l : List ℕ) (n : ℕ) → slice_range l n (length l) ≡ drop n l
to_end l n = take_all _ (drop n l) (omega (arith, length-drop n l))

-- the rest of a buffer after one part and another is the rest after both
past_both : (s t u : SharedBuffer ℕ) (a b : ℕ)
    → ShowsPart 1 s (rest_of s a) s.alignment t → ShowsPart 1 t (rest_of t b) t.alignment u
    → ShowsPart 1 s (rest_of s (a + b)) s.alignment u
past_both s t u a b one two =
    let rest : slice_range t.list b (length t.list) ≡ slice_range s.list (a + b) (length s.list) =
    to_end t.list b ∙ ap (drop b) (one.list ∙ to_end s.list a) ∙ drop-drop b a s.list
    ∙ sym (to_end s.list (a + b)) in
    let first : 0 < length (slice_range s.list (a + b) (length s.list))
    → 0 < length (slice_range s.list a (length s.list)) =
    λ some. omega (
      arith,
      some,
      ap length (to_end s.list (a + b)),
      length-drop (a + b) s.list,
      ap length (to_end s.list a),
      length-drop a s.list,
    ) in
    let second : 0 < length (slice_range s.list (a + b) (length s.list))
    → 0 < length (slice_range t.list b (length t.list)) =
    λ some. subst (λ l. 0 < length l) (sym rest) some in
    record {
      list = two.list ∙ rest;
      alignment = two.alignment ∙ one.alignment;
      place = λ some. omega (arith, two.place (second some), one.place (first some));
      declared = λ some. two.declared (second some) ∙ one.declared (first some);
    }

-- a buffer of bytes can skip multiples of its alignment
pub buffer_steps : AreSteps (λ (b : SharedBuffer ℕ) n. n % 2 ^ b.alignment ≡ 0)
    (λ b n rest. ShowsPart 1 b (rest_of b n) b.alignment rest)
buffer_steps = record {
  none = λ s. mod-eq-zero_of_dvd (2 ^ s.alignment) (dvd-zero (2 ^ s.alignment));
  sum = λ s a b one two. mod-eq-zero_of_dvd (2 ^ s.alignment)
      (dvd-add (2 ^ s.alignment) (dvd_of_mod-eq-zero (2 ^ s.alignment) one)
      (dvd_of_mod-eq-zero (2 ^ s.alignment) two));
  past_none = λ s. record {
    list = sym (to_end s.list 0);
    alignment = refl;
    place = λ _. omega arith;
    declared = λ _. refl;
  };
  past_sum = past_both;
}
