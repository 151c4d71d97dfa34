-- The lines of the input that the session has passed, and the bytes that remain.
use Rattle.std.proofs.Common.{◌≡◌, ℕ, ◌+◌, ◌<◌, List, [], ◌∷◌, ◌++◌, length, take, drop, refl}
use Rattle.std.proofs.Common.{sym, ap, ◌∙◌, Option, Some, None, arith, eqb, subst, append_assoc}
use Rattle.std.proofs.Common.{length-append}
use Rattle.std.specs.Prelude.{position, slice_get, IsSomeAnd}
use Rattle.std.proofs.Math.Seq.{take-append_seam}
use Rattle.std.specs.Str.Lines.{lines, strip_carriage_return}
use Rattle.std.specs.Io.KnownBytes.{prepend_known, Keeps, IsAtEnd}
use mathlib.Core.List.{append-nil}
use Rattle.vb_script.specs.Session.{count_ended, ended_lines}
use Rattle.vb_script.proofs.InputLines.{line_feeds, line_feeds-append, line_feeds-within}
use Rattle.vb_script.proofs.InputLines.{lines-line_feed, lines-last, within_first, within_all}
use Rattle.vb_script.proofs.InputLines.{cut_at_line_feed}
use Rattle.vb_script.proofs.KnownBytes.{known_rest, nil_at_end}

-- the session has passed the lines `done` of the input; the bytes `fed` come next, and then the
-- remaining ones
pub record Passed (input : List ℕ) (done : List (List ℕ)) (fed : List ℕ)
    (remaining : Option (List ℕ)) : Type 0 where
  pub used : List ℕ
  pub rest : List ℕ
  pub known : remaining ≡ Some rest
  pub whole : input ≡ used ++ (fed ++ rest)
  pub split : (more : List ℕ) → lines (used ++ more) ≡ done ++ lines more
  pub ended : line_feeds used ≡ length done

-- the session has passed no line
pub Passed-nil : (input : List ℕ) (remaining : Option (List ℕ)) → remaining ≡ Some input
    → Passed input [] [] remaining
Passed-nil input remaining e = record {
  used = [];
  rest = input;
  known = e;
  whole = refl;
  split =
      λ more. refl;
  ended = refl;
}

-- the session has read bytes
pub Passed-Keeps : (input : List ℕ) (done : List (List ℕ)) (fed : List ℕ)
    (remaining : Option (List ℕ)) (fed' : List ℕ) (remaining' : Option (List ℕ))
    → Passed input done fed remaining → Keeps (prepend_known fed remaining)
    (prepend_known fed' remaining') → Passed input done fed' remaining'
Passed-Keeps input done fed remaining fed' remaining' p kept =
    let now = known_rest (fed ++ p.rest) fed' remaining'
    (subst (λ (o : Option (List ℕ)). Keeps (prepend_known fed o)
    (prepend_known fed' remaining')) p.known kept) in
    record {
      used = p.used;
      rest = now.0;
      known = now.1;
      whole = p.whole
          ∙ ap (λ xs. p.used ++ xs) (sym now.2);
      split = p.split;
      ended = p.ended;
    }

-- the session has passed one more line
pub Passed-append : (input : List ℕ) (done : List (List ℕ)) (fed : List ℕ)
    (remaining : Option (List ℕ)) (at : ℕ)
    → Passed input done fed remaining → position (λ b. eqb b 10) fed ≡ Some at
    → Passed input (done ++ strip_carriage_return (take at fed) ∷ [])
    (drop (at + 1) fed) remaining
Passed-append input done fed remaining at p here =
    let line = take at fed in
    let more = drop (at + 1) fed in
    let end = line ++ 10 ∷ [] in
    let cut : (ys : List ℕ) → end ++ ys ≡ line ++ 10 ∷ ys = λ ys. append_assoc line (10 ∷ []) ys in
    record {
      used = p.used ++ end;
      rest = p.rest;
      known = p.known;
      whole = p.whole ∙ (ap (λ xs. p.used ++ (xs ++ p.rest))
          (cut_at_line_feed fed at here ∙ sym (cut more))
          ∙ (ap (λ xs. p.used ++ xs) (append_assoc end more p.rest)
          ∙ sym (append_assoc p.used end (more ++ p.rest))));
      split = λ ys. ap lines (append_assoc p.used end ys ∙ ap (λ xs. p.used ++ xs) (cut ys))
          ∙ (p.split (line ++ 10 ∷ ys) ∙ (ap (λ ls. done ++ ls)
          (lines-line_feed line ys (within_first fed at here))
          ∙ sym (append_assoc done (strip_carriage_return line ∷ []) (lines ys))));
      ended = omega (
        arith,
        line_feeds-append p.used end,
        line_feeds-append line
            (10 ∷ []),
        line_feeds-within line (within_first fed at here),
        p.ended,
        length-append done
            (strip_carriage_return line ∷ []),
      );
    }

-- the lines of the input are those passed and those to come
pub Passed-lines : (input : List ℕ) (done : List (List ℕ)) (fed : List ℕ)
    (remaining : Option (List ℕ)) → (p : Passed input done fed remaining)
    → lines input ≡ done ++ lines (fed ++ p.rest)
Passed-lines input done fed remaining p = ap lines p.whole ∙ p.split (fed ++ p.rest)

-- if no line feed waits, the lines that have ended are those passed
pub Passed-ended_lines : (input : List ℕ) (done : List (List ℕ)) (fed : List ℕ)
    (remaining : Option (List ℕ)) → (p : Passed input done fed remaining)
    → position (λ b. eqb b 10) fed ≡ None → ended_lines (p.used ++ fed) ≡ done
Passed-ended_lines input done fed remaining p none =
    let count : line_feeds (p.used ++ fed) ≡ length done =
    omega (
      arith,
      line_feeds-append p.used fed,
      line_feeds-within fed (within_all fed none),
      p.ended,
    ) in
    ap (λ n. take n (lines (p.used ++ fed))) count ∙ (ap (take (length done)) (p.split fed)
    ∙ take-append_seam done (lines fed))

-- the lines passed are the first lines of the input
pub Passed-front : (input : List ℕ) (done : List (List ℕ)) (fed : List ℕ)
    (remaining : Option (List ℕ)) → Passed input done fed remaining
    → take (length done) (lines input) ≡ done
Passed-front input done fed remaining p = ap (take (length done))
    (Passed-lines input done fed remaining p) ∙ take-append_seam done (lines (fed ++ p.rest))

-- if no line feed waits, the number of lines that have ended is the number of lines passed
pub Passed-count : (input : List ℕ) (done : List (List ℕ)) (fed : List ℕ)
    (remaining : Option (List ℕ)) → (p : Passed input done fed remaining)
    → position (λ b. eqb b 10) fed ≡ None → count_ended (p.used ++ fed) ≡ length done
Passed-count input done fed remaining p none = omega (
  arith,
  line_feeds-append p.used fed,
  line_feeds-within fed (within_all fed none),
  p.ended,
)

-- a property of an element holds at its index
at_seam : (done : List (List ℕ)) (line : List ℕ) (later : List (List ℕ)) (P : List ℕ → Type 0)
    → P line → IsSomeAnd (slice_get (done ++ line ∷ later) (length done)) P
at_seam [] line later P h = h
at_seam (x ∷ done) line later P h = at_seam done line later P h

-- a property of a line in the middle of a list
pub next_of : (ls done : List (List ℕ)) (line : List ℕ) (later : List (List ℕ))
    (P : List ℕ → Type 0) → ls ≡ done ++ line ∷ later → P line
    → IsSomeAnd (slice_get ls (length done)) P
next_of ls done line later P e h = subst (λ (xs : List (List ℕ)).
    IsSomeAnd (slice_get xs (length done)) P) (sym e) (at_seam done line later P h)

-- the same lines passed, as if no more bytes remained
pub Passed-here : (input : List ℕ) (done : List (List ℕ)) (fed : List ℕ)
    (remaining : Option (List ℕ))
    → (p : Passed input done fed remaining) → Passed (p.used ++ fed) done fed (Some [])
Passed-here input done fed remaining p = record {
  used = p.used;
  rest = [];
  known = refl;
  whole =
      ap (λ xs. p.used ++ xs) (sym (append-nil fed));
  split = p.split;
  ended = p.ended;
}

-- nothing is left
pub Passed-all : (input : List ℕ) (done : List (List ℕ)) (remaining : Option (List ℕ))
    → Passed input done [] remaining → IsAtEnd remaining → lines input ≡ done
Passed-all input done remaining p end =
    Passed-lines input done [] remaining p ∙ (ap (λ xs. done ++ lines xs)
    (nil_at_end remaining p.rest p.known end) ∙ append-nil done)

-- a last line is left, without a line feed at its end
pub Passed-last : (input : List ℕ) (done : List (List ℕ)) (fed : List ℕ)
    (remaining : Option (List ℕ)) → Passed input done fed remaining
    → position (λ b. eqb b 10) fed ≡ None → 0 < length fed → IsAtEnd remaining
    → lines input ≡ done ++ fed ∷ []
Passed-last input done fed remaining p none some end =
    Passed-lines input done fed remaining p
    ∙ (ap (λ xs. done ++ lines (fed ++ xs)) (nil_at_end remaining p.rest p.known end)
    ∙ (ap (λ xs. done ++ lines xs) (append-nil fed)
    ∙ ap (λ ls. done ++ ls) (lines-last fed (within_all fed none) some)))

-- the line is next, after the lines passed
abbrev pub IsNext : List ℕ → List (List ℕ) → List ℕ → Type 0
IsNext input done line = (later : List (List ℕ)) × (lines input ≡ done ++ line ∷ later)

-- the next line, which ends with a line feed
pub Passed-line : (input : List ℕ) (done : List (List ℕ)) (fed : List ℕ)
    (remaining : Option (List ℕ)) (k : ℕ) → Passed input done fed remaining
    → Some k ≡ position (λ b. eqb b 10) fed
    → IsNext input done (strip_carriage_return (take k fed))
Passed-line input done fed remaining k p here =
    let line = take k fed in
    let more = drop (k + 1) fed ++ p.rest in
    let cut : fed ++ p.rest ≡ line ++ 10 ∷ more = ap (λ xs. xs ++ p.rest)
    (cut_at_line_feed fed k (sym here)) ∙ append_assoc line (10 ∷ drop (k + 1) fed) p.rest in (
      lines more,
      Passed-lines input done fed remaining p
          ∙ ap (λ ls. done ++ ls) (ap lines cut ∙ lines-line_feed line more
          (within_first fed k (sym here))),
    )
