-- Bytes of streams that report them.
use Rattle.std.proofs.Common.{◌≡◌, ℕ, List, [], ◌++◌, refl, sym, ap, ◌∙◌, Option, Some, None}
use Rattle.std.proofs.Common.{append_assoc, append-nil, subst}
use Rattle.std.specs.Prelude.{IfSome}
use Rattle.std.specs.Io.KnownBytes.{prepend_known, append_known, Keeps, Appends, Consumes, IsAtEnd}

-- the waiting bytes were written
pub Keeps-written : (written written' : Option (List ℕ)) (out : List ℕ)
    → Appends written written' out → Keeps (append_known written out) written'
Keeps-written None written' out h = tt
Keeps-written (Some w) None out h = absurd h
Keeps-written (Some w) (Some z) out h = h

-- no bytes wait
pub Appends-wait-nil : (first : Option (List ℕ)) → Appends first (append_known first []) []
Appends-wait-nil None = tt
Appends-wait-nil (Some xs) = refl

-- bytes wait after other bytes
pub Appends-wait : (written : Option (List ℕ)) (out text : List ℕ)
    → Appends (append_known written out) (append_known written (out ++ text)) text
Appends-wait None out text = tt
Appends-wait (Some w) out text = sym (append_assoc w out text)

-- bytes wait after the earlier ones were written
pub Appends-flushed : (written written' : Option (List ℕ)) (out text : List ℕ)
    → Appends written written' out → Appends (append_known written out) (append_known written' text)
    text
Appends-flushed None written' out text h = tt
Appends-flushed (Some w) None out text h = absurd h
Appends-flushed (Some w) (Some z) out text h = ap (λ l. l ++ text) h

-- bytes are written after those that waited
pub Appends-past : (written written' written'' : Option (List ℕ)) (out text : List ℕ)
    → Appends written written' out → Appends written' written'' text
    → Appends (append_known written out) (append_known written'' []) text
Appends-past None written' written'' out text h k = tt
Appends-past (Some w) None written'' out text h k = absurd h
Appends-past (Some w) (Some z) None out text h k = absurd k
Appends-past (Some w) (Some z) (Some y) out text h k = append-nil y ∙ (k ∙ ap (λ l. l ++ text) h)

-- if all bytes are known, the remaining ones are those after the bytes that were read
pub known_rest : (xs bytes : List ℕ) (remaining : Option (List ℕ))
    → Keeps (Some xs) (prepend_known bytes remaining) → (rest : List ℕ) × (remaining ≡ Some rest) ×
    (bytes ++ rest ≡ xs)
known_rest xs bytes None k = absurd k
known_rest xs bytes (Some rest) k = (rest, refl, k)

-- at the end no bytes remain
pub nil_at_end : (remaining : Option (List ℕ)) (rest : List ℕ) → remaining ≡ Some rest
    → IsAtEnd remaining → rest ≡ []
nil_at_end remaining rest e h = let P : Option (List ℕ) → Type 0 = IsAtEnd in subst P e h

-- a property of the bytes, if they are known
pub IfSome-known : (known : Option (List ℕ)) (P : List ℕ → Type 0)
    → ((bytes : List ℕ) → known ≡ Some bytes → P bytes) → IfSome known P
IfSome-known None P h = tt
IfSome-known (Some bytes) P h = h bytes refl

-- bytes that were read come after the earlier ones
pub Keeps-read : (front bytes : List ℕ) (old new : Option (List ℕ)) → Consumes old new bytes
    → Keeps (prepend_known front old) (prepend_known (front ++ bytes) new)
Keeps-read front bytes None new h = tt
Keeps-read front bytes (Some xs) None h = absurd h
Keeps-read front bytes (Some xs) (Some ys) h = append_assoc front bytes ys
    ∙ ap (λ l. front ++ l) (sym h)

-- bytes that wait and bytes that are written, for `#[tactic(auto, using(..))]`
pub ruleset known_bytes = (Appends-wait, Appends-flushed, Appends-past)
