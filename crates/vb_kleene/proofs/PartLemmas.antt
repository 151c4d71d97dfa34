-- Parts of lists that are combined index by index, and writes of one part after another.
use Rattle.std.proofs.Common.{◌≡◌, ℕ, zero, suc, ◌+◌, ◌-◌, ◌<◌, ◌≤◌, ◌⊎◌, Bool, not, List}
use Rattle.std.proofs.Common.{[], ◌∷◌, ◌++◌}
use Rattle.std.proofs.Common.{length, take, drop, refl, sym, ap, subst, ◌∙◌, arith}
use Rattle.std.specs.Prelude.{slice_range}
use Rattle.std.proofs.lemmas.List.{take-map, drop-map, drop-drop, length-take-le}
use Rattle.std.proofs.lemmas.List.{length-drop}
use Rattle.std.proofs.Math.Seq.{take-add}
use Rattle.vb_bits.specs.Bits.{complement}
use Rattle.vb_bits.specs.Operators.{merged_by}
use Rattle.vb_bits.specs.Writes.{Writes}
use Rattle.vb_bits.proofs.WritesLemmas.{Writes-add}

take-merged_by : (f : Bool → Bool → Bool) (n : ℕ) (l r : List Bool)
    → take n (merged_by f l r) ≡ merged_by f (take n l) (take n r)
unfolding merged_by
take-merged_by f zero l r = refl
take-merged_by f (suc n) [] r = refl
take-merged_by f (suc n) (x ∷ l) [] = refl
take-merged_by f (suc n) (x ∷ l) (y ∷ r) = ap (λ z. f x y ∷ z) (take-merged_by f n l r)

none_merged : (f : Bool → Bool → Bool) (l : List Bool) → merged_by f l [] ≡ []
unfolding merged_by
none_merged f [] = refl
none_merged f (x ∷ l) = refl

drop-merged_by : (f : Bool → Bool → Bool) (n : ℕ) (l r : List Bool)
    → drop n (merged_by f l r) ≡ merged_by f (drop n l) (drop n r)
unfolding merged_by
drop-merged_by f zero l r = refl
drop-merged_by f (suc n) [] r = refl
drop-merged_by f (suc n) (x ∷ l) [] = sym (none_merged f (drop n l))
drop-merged_by f (suc n) (x ∷ l) (y ∷ r) = drop-merged_by f n l r

-- the combination of two parts is a part of the combination of the lists
pub both_parts : (f : Bool → Bool → Bool) (l r x y : List Bool) (a b : ℕ)
    → x ≡ slice_range l a b → y ≡ slice_range r a b
    → merged_by f x y ≡ slice_range (merged_by f l r) a b
both_parts f l r x y a b left right =
    ap (λ z. merged_by f z y) left ∙ ap (merged_by f (slice_range l a b)) right
    ∙ sym (ap (take (b - a)) (drop-merged_by f a l r)
    ∙ take-merged_by f (b - a) (drop a l) (drop a r))

-- and the negation of a part is a part of the negation
pub part_negated : (l x : List Bool) (a b : ℕ) → x ≡ slice_range l a b
    → complement x ≡ slice_range (complement l) a b
part_negated l x a b e =
    ap complement e
    ∙ sym (ap (take (b - a)) (drop-map not a l) ∙ take-map not (b - a) (drop a l))

-- writes of the first m values and of the w after them are one write
pub Writes-part : (b c d : List ℕ) (o p m w e : ℕ) (l : List Bool) → m ≤ length l
    → p ≡ o + m → m + w ≡ e → Writes b c o (take m l) → Writes c d p (slice_range l m (m + w))
    → Writes b d o (take e l)
Writes-part b c d o p m w e l inside at end one two =
    let size : m + w - m ≡ w = omega arith in
    let long : length (take m l) ≡ m = length-take-le m l inside in
    subst (Writes b d o) (ap (λ n. take m l ++ take n (drop m l)) size ∙ sym (take-add m w l)
    ∙ ap (λ n. take n l) end)
    (Writes-add b c d o p (take m l) (slice_range l m (m + w)) (omega arith) one two)

-- the same for a part that doesn't begin with the first value
pub Writes-next : (b c d : List ℕ) (o p a m w e : ℕ) (l : List Bool) → a ≤ m → m ≤ length l
    → p ≡ o + (m - a) → m + w ≡ e → Writes b c o (slice_range l a m)
    → Writes c d p (slice_range l m (m + w)) → Writes b d o (slice_range l a e)
Writes-next b c d o p a m w e l from inside at end one two =
    let here : a + (m - a) ≡ m = omega arith in
    let size : m + w - m ≡ m - a + w - (m - a) = omega arith in
    Writes-part b c d o p (m - a) w (e - a) (drop a l) (omega (arith, length-drop a l)) at
    (omega arith) one
    (subst (Writes c d p) (ap (λ n. take n (drop m l)) size
    ∙ ap (take (m - a + w - (m - a))) (ap (λ n. drop n l) (sym here) ∙ sym (drop-drop (m - a) a l)))
    two)

-- the length of a part
pub length-part : (l : List Bool) (a w : ℕ) → a + w ≤ length l
    → length (slice_range l a (a + w)) ≡ w
length-part l a w inside =
    let size : a + w - a ≡ w = omega arith in
    ap (λ n. length (take n (drop a l))) size
    ∙ length-take-le w (drop a l) (omega (arith, length-drop a l))

-- one list written over another one
pub Writes-over : (b c d : List ℕ) (o : ℕ) (l m : List Bool) → length l ≡ length m
    → Writes b c o l → Writes c d o m → Writes b d o m
Writes-over b c d o l m e one two = record {
  same_len = two.same_len ∙ one.same_len;
  window = two.window;
  others = λ i h. two.others i h ∙ one.others i (subst (λ n. (i < o) ⊎ (o + n ≤ i)) (sym e) h);
}

-- two equal lists
pub Writes-as : {b c : List ℕ} {o : ℕ} {l m : List Bool} → l ≡ m → Writes b c o l → Writes b c o m
Writes-as {b} {c} {o} same wrote = subst (Writes b c o) same wrote
