-- The progress of a session, and its meaning for the end of the session.
use Rattle.std.proofs.Common.{◌≡◌, ℕ, ◌+◌, ◌-◌, ◌^◌, ◌<◌, List, [], ◌∷◌, ◌++◌, length, take, drop}
use Rattle.std.proofs.Common.{refl, sym, ap, ◌∙◌, Option, Some, None, Result, Ok, Err, arith, eqb}
use Rattle.std.proofs.Common.{subst, append_assoc, length-append}
use Rattle.std.specs.Prelude.{position, IfErr, IsSomeAnd, OnOk}
use Rattle.std.specs.Str.Lines.{lines, strip_carriage_return}
use Rattle.std.specs.Io.KnownBytes.{prepend_known, append_known, Keeps, Appends, IsAtEnd}
use Rattle.std.proofs.lemmas.Grind.{flat_map-append}
use mathlib.Core.List.{append-nil}
use Rattle.vb_command.specs.Machine.{Slot, empty_slots, Order, Reply, Run}
use Rattle.vb_command.specs.Printed.{line_of}
use Rattle.vb_command.specs.Reading.{reading, script, with_order}
use Rattle.vb_pool.proofs.Runs.{Run-append}
use Rattle.vb_script.specs.DriveError.{FailsReading, UnlessWrite}
use Rattle.vb_script.specs.Session.{RepliesTo, line_of_any, lines_of, IsUnread, AnswersLine}
use Rattle.vb_script.specs.Session.{AnswersLast, AnswersRun, AnswersLines, AnswersSome}
use Rattle.vb_script.specs.Session.{AnswersEnded, StopsAt, SessionEnds, count_ended}
use Rattle.vb_script.specs.declared.error.DriveError.{DriveError}
use Rattle.vb_script.specs.declared.error.DriveError.TheVariants.{Unreadable, Read, Write, Memory}
use Rattle.vb_script.proofs.InputLines.{line_feeds-append}
use Rattle.std.proofs.KnownBytes.{Appends-kept, Appends-nil, Appends-trans}
use Rattle.vb_script.proofs.KnownBytes.{Appends-wait-nil, Keeps-written, nil_at_end}
use Rattle.vb_script.proofs.Scripts.{script-append}
use Rattle.vb_script.proofs.Passed.{Passed, Passed-nil, Passed-Keeps, Passed-append}
use Rattle.vb_script.proofs.Passed.{Passed-ended_lines, Passed-front, Passed-count, next_of}
use Rattle.vb_script.proofs.Passed.{Passed-here, Passed-all, Passed-last, Passed-line, IsNext}

-- commands were run, and their answers were appended to the first bytes
pub record Ran (commands : List Order) (first now : Option (List ℕ)) (slots : List Slot) :
    Type 0 where
  pub replies : List Reply
  pub ran : Run empty_slots commands replies slots
  pub told : Appends first now (lines_of replies)

-- no command was run
pub Ran-nil : (first : Option (List ℕ)) → Ran [] first (append_known first []) empty_slots
Ran-nil first = record { replies = []; ran = refl; told = Appends-wait-nil first }

-- answers were written
pub Ran-Keeps : (commands : List Order) (first now now' : Option (List ℕ)) (slots : List Slot)
    → Ran commands first now slots → Keeps now now' → Ran commands first now' slots
Ran-Keeps commands first now now' slots a told = record {
  replies = a.replies;
  ran = a.ran;
  told = Appends-kept first now now' (lines_of a.replies) a.told told;
}

-- one more answer
lines_of-append : (replies : List Reply) (r : Reply) → lines_of (replies ++ r ∷ []) ≡ lines_of
    replies ++ line_of r
lines_of-append replies r = flat_map-append line_of replies (r ∷ [])
    ∙ ap (λ xs. lines_of replies ++ xs) (append-nil (line_of r))

-- one more line was answered
pub Ran-append : (commands : List Order) (first now : Option (List ℕ)) (slots : List Slot)
    (o : Option (Option Order)) (r : Option Reply) (now' : Option (List ℕ)) (slots' : List Slot)
    → Ran commands first now slots → RepliesTo o slots r slots' → Appends now now' (line_of_any r)
    → (c : Option Order) × (o ≡ Some c) × Ran (commands ++ with_order c []) first now' slots'
Ran-append commands first now slots None r now' slots' a served told = absurd served
Ran-append commands first now slots (Some None) r now' slots' a served told = (
  None,
  refl,
  subst (λ (cs : List Order). Ran cs first now' slots') (sym (append-nil commands))
      (record {
        replies = a.replies;
        ran = subst (λ (s : List Slot). Run empty_slots commands a.replies s) (sym served.1) a.ran;
        told = subst (λ (x : List ℕ). Appends first now' x)
            (ap (λ q. lines_of a.replies ++ line_of_any q) served.0
            ∙ append-nil (lines_of a.replies))
            (Appends-trans first now now' (lines_of a.replies) (line_of_any r) a.told told);
      }),
)
Ran-append commands first now slots (Some (Some c)) None now' slots' a served told = absurd served
Ran-append commands first now slots (Some (Some c)) (Some r) now' slots' a outcome told = (
  Some c,
  refl,
  record {
    replies = a.replies ++ r ∷ [];
    ran = Run-append empty_slots commands a.replies slots c r slots' a.ran outcome;
    told = subst (λ (x : List ℕ). Appends first now' x) (sym (lines_of-append a.replies r))
        (Appends-trans first now now' (lines_of a.replies) (line_of r) a.told told);
  },
)

-- all answers were written
pub Ran-AnswersRun : (commands : List Order) (first now : Option (List ℕ)) (slots : List Slot)
    → Ran commands first now slots → AnswersRun first now
Ran-AnswersRun commands first now slots a = record {
  commands = commands;
  replies = a.replies;
  last = slots;
  ran = a.ran;
  written = a.told;
}

-- some commands were run
abbrev pub RanAny : (first now : Option (List ℕ)) (slots : List Slot) → Type 0
RanAny first now slots = (commands : List Order) × Ran commands first now slots

-- one more line was answered
pub RanAny-next : (first now : Option (List ℕ)) (slots : List Slot) (line : List ℕ) (n : ℕ)
    (now' : Option (List ℕ)) (slots' : List Slot) → RanAny first now slots
    → AnswersLine line n slots slots' now now' → RanAny first now' slots'
RanAny-next first now slots line n now' slots' (commands, a) s =
    let next = Ran-append commands first now slots (reading line) s.answer now' slots' a s.ran
    s.added in
    (commands ++ with_order next.0 [], next.2)

-- answers were written
pub RanAny-Keeps : (first now now' : Option (List ℕ)) (slots : List Slot) → RanAny first now slots
    → Keeps now now' → RanAny first now' slots
RanAny-Keeps first now now' slots (commands, a) told =
    (commands, Ran-Keeps commands first now now' slots a told)

-- all answers were written, last those that waited
pub RanAny-written : (first written : Option (List ℕ)) (out : List ℕ) (slots : List Slot)
    (written' : Option (List ℕ)) → RanAny first (append_known written out) slots
    → Appends written written' out → AnswersRun first written'
RanAny-written first written out slots written' (commands, a) wrote =
    Ran-AnswersRun commands first written' slots (Ran-Keeps commands first
    (append_known written out) written' slots a (Keeps-written written written' out wrote))

-- no command was run, and nothing was written
pub AnswersRun-none : (written : Option (List ℕ)) → AnswersRun written written
AnswersRun-none written = record {
  commands = [];
  replies = [];
  last = empty_slots;
  ran = refl;
  written = Appends-nil written;
}

-- these lines were answered
pub record Answered (ls : List (List ℕ)) (first now : Option (List ℕ)) (slots : List Slot) :
    Type 0 where
  pub commands : List Order
  pub read : script 1 ls ≡ Some commands
  pub ran : Ran commands first now slots

-- no line was answered
pub Answered-nil : (first : Option (List ℕ))
    → Answered [] first (append_known first []) empty_slots
Answered-nil first = record { commands = []; read = refl; ran = Ran-nil first }

-- answers were written
pub Answered-Keeps : (ls : List (List ℕ)) (first now now' : Option (List ℕ)) (slots : List Slot)
    → Answered ls first now slots → Keeps now now' → Answered ls first now' slots
Answered-Keeps ls first now now' slots a told = record {
  commands = a.commands;
  read = a.read;
  ran = Ran-Keeps a.commands first now now' slots a.ran told;
}

-- all answers were written
pub Answered-AnswersLines : (ls : List (List ℕ)) (first now : Option (List ℕ)) (slots : List Slot)
    → Answered ls first now slots → AnswersLines ls first now
Answered-AnswersLines ls first now slots a = record {
  commands = a.commands;
  read = a.read;
  replies = a.ran.replies;
  last = slots;
  ran = a.ran.ran;
  written = a.ran.told;
}

-- all answers were written, last those that waited
pub Answered-written : (ls : List (List ℕ)) (first written : Option (List ℕ)) (out : List ℕ)
    (slots : List Slot) (written' : Option (List ℕ))
    → Answered ls first (append_known written out) slots → Appends written written' out
    → AnswersLines ls first written'
Answered-written ls first written out slots written' a wrote =
    Answered-AnswersLines ls first written' slots (Answered-Keeps ls first
    (append_known written out) written' slots a (Keeps-written written written' out wrote))

-- one more line was answered
pub Answered-append : (ls : List (List ℕ)) (first now : Option (List ℕ)) (slots : List Slot)
    (line : List ℕ) (n : ℕ) (now' : Option (List ℕ)) (slots' : List Slot)
    → Answered ls first now slots → length ls + 1 ≡ n → AnswersLine line n slots slots' now now'
    → Answered (ls ++ line ∷ []) first now' slots'
Answered-append ls first now slots line n now' slots' a number s =
    let next = Ran-append a.commands first now slots (reading line) s.answer now' slots' a.ran
    s.ran s.added in
    let small : 1 + length ls < 2 ^ 64 - 1 = omega (arith, s.numbered, number) in
    record {
      commands = a.commands ++ with_order next.0 [];
      read = script-append 1 ls line a.commands next.0 small next.1 a.read;
      ran = next.2;
    }

-- the next line has number n: the session has passed and answered the lines before it
pub record Progress (input : List ℕ) (first : Option (List ℕ)) (n : ℕ) (fed : List ℕ)
    (remaining now : Option (List ℕ)) (slots : List Slot) : Type 0 where
  pub done : List (List ℕ)
  pub number : length done + 1 ≡ n
  pub passed : Passed input done fed remaining
  pub answered : Answered done first now slots

-- the first line is next
pub Progress-first : (input : List ℕ) (remaining first : Option (List ℕ)) → remaining ≡ Some input
    → Progress input first 1 [] remaining (append_known first []) empty_slots
Progress-first input remaining first e = record {
  done = [];
  number = refl;
  passed = Passed-nil input remaining e;
  answered = Answered-nil first;
}

module _ {input : List ℕ} {first : Option (List ℕ)} where
  -- bytes were read and written
  pub Progress-Keeps : (n : ℕ) (slots : List Slot) (fed : List ℕ) (remaining now : Option (List ℕ))
      (fed' : List ℕ) (remaining' now' : Option (List ℕ))
      → Progress input first n fed remaining now slots
      → Keeps (prepend_known fed remaining) (prepend_known fed' remaining') → Keeps now now'
      → Progress input first n fed' remaining' now' slots
  Progress-Keeps n slots fed remaining now fed' remaining' now' p kept told = record {
    done = p.done;
    number = p.number;
    passed = Passed-Keeps input p.done fed remaining fed' remaining' p.passed kept;
    answered = Answered-Keeps p.done first now now' slots p.answered told;
  }

  -- a line that ends with a line feed was answered
  pub Progress-next : (n : ℕ) (fed : List ℕ) (remaining now : Option (List ℕ)) (slots : List Slot)
      (k : ℕ) (fed' : List ℕ) (now' : Option (List ℕ)) (slots' : List Slot)
      → Progress input first n fed remaining now slots → Some k ≡ position (λ b. eqb b 10) fed
      → AnswersLine (strip_carriage_return (take k fed)) n slots slots' now now'
      → fed' ≡ drop (k + 1) fed → Progress input first (n + 1) fed' remaining now' slots'
  Progress-next n fed remaining now slots k fed' now' slots' p here s rest =
      let line = strip_carriage_return (take k fed) in
      record {
        done = p.done ++ line ∷ [];
        number = omega (arith, length-append p.done (line ∷ []), p.number);
        passed = subst (λ (x : List ℕ). Passed input (p.done ++ line ∷ []) x remaining) (sym rest)
            (Passed-append input p.done fed remaining k p.passed (sym here));
        answered = Answered-append p.done first now slots line n now' slots' p.answered p.number s;
      }

  -- the last line was answered, if there was one
  Progress-answered : (n : ℕ) (fed : List ℕ) (remaining now : Option (List ℕ)) (slots : List Slot)
      (now' : Option (List ℕ)) (slots' : List Slot) → Progress input first n fed remaining now slots
      → None ≡ position (λ b. eqb b 10) fed → IsAtEnd remaining
      → AnswersLast fed n slots slots' now now' → AnswersLines (lines input) first now'
  Progress-answered n [] remaining now slots now' slots' p here end s =
      subst (λ (ls : List (List ℕ)). AnswersLines ls first now')
      (sym (Passed-all input p.done remaining p.passed end))
      (Answered-AnswersLines p.done first now' slots
      (Answered-Keeps p.done first now now' slots p.answered s.1))
  Progress-answered n (b ∷ bytes) remaining now slots now' slots' p here end s =
      let line = b ∷ bytes in
      subst (λ (ls : List (List ℕ)). AnswersLines ls first now')
      (sym (Passed-last input p.done line remaining p.passed (sym here) (omega arith) end))
      (Answered-AnswersLines (p.done ++ line ∷ []) first now' slots'
      (Answered-append p.done first now slots line n now' slots' p.answered p.number s))

  -- no further line came
  pub Progress-stopped : (n : ℕ) (fed : List ℕ) (remaining written : Option (List ℕ))
      (out : List ℕ) (slots : List Slot) (fed' : List ℕ) (remaining' written' : Option (List ℕ))
      (e : DriveError) → Progress input first n fed remaining (append_known written out) slots
      → Keeps (prepend_known fed remaining) (prepend_known fed' remaining')
      → UnlessWrite {X = Option ℕ} (Err e) (FailsReading e (Appends written written' out
      × (position (λ b. eqb b 10) fed' ≡ None)))
      → IsSomeAnd remaining' (λ rest. SessionEnds {X = Unit {0}} (Err e) input rest first written')
  Progress-stopped n fed remaining written out slots fed' remaining' written' (Unreadable line) p
      kept stopped = absurd stopped
  Progress-stopped n fed remaining written out slots fed' remaining' written' Write p kept stopped =
      let q = Passed-Keeps input p.done fed remaining fed' remaining' p.passed kept in
      subst (λ (o : Option (List ℕ)). IsSomeAnd o (λ rest. Unit {0})) (sym q.known) tt
  Progress-stopped n fed remaining written out slots fed' remaining' written' Read p kept stopped =
      let q = Passed-Keeps input p.done fed remaining fed' remaining' p.passed kept in
      subst (λ (o : Option (List ℕ)). IsSomeAnd o (λ rest. AnswersEnded input rest first written'))
      (sym q.known) (
        q.used ++ fed',
        q.whole ∙ sym (append_assoc q.used fed' q.rest),
        subst (λ (ls : List (List ℕ)). AnswersLines ls first written')
            (sym (Passed-ended_lines input p.done fed' remaining' q stopped.1))
            (Answered-written p.done first written out slots written' p.answered stopped.0),
      )
  Progress-stopped n fed remaining written out slots fed' remaining' written' Memory p kept
      stopped =
      let q = Passed-Keeps input p.done fed remaining fed' remaining' p.passed kept in
      let ended : count_ended (q.used ++ fed') ≡ length p.done =
      Passed-count input p.done fed' remaining' q stopped.1 in
      subst (λ (o : Option (List ℕ)). IsSomeAnd o (λ rest. AnswersSome input rest first written'))
      (sym q.known) (record {
        bytes = q.used ++ fed';
        front = q.whole ∙ sym (append_assoc q.used fed' q.rest);
        number = length p.done;
        ended = omega (arith, ended);
        answered = subst (λ (ls : List (List ℕ)). AnswersLines ls first written')
            (sym (Passed-front input p.done fed remaining p.passed))
            (Answered-written p.done first written out slots written' p.answered stopped.0);
        next = λ more. absurd (omega (arith, more, ended));
      })

  -- the next line has no command
  pub Progress-unread : (n : ℕ) (fed : List ℕ) (remaining written : Option (List ℕ)) (out : List ℕ)
      (slots : List Slot) (line : List ℕ) (written' : Option (List ℕ)) (e : DriveError)
      → (p : Progress input first n fed remaining (append_known written out) slots)
      → IsNext input p.done line → IsNext (p.passed.used ++ fed) p.done line
      → UnlessWrite {X = Unit {0}} (Err e) (IsUnread line n e × Appends written written' out)
      → IsSomeAnd remaining (λ rest. SessionEnds {X = Unit {0}} (Err e) input rest first written')
  Progress-unread n fed remaining written out slots line written' (Unreadable m) p q h s =
      subst (λ (o : Option (List ℕ)). IsSomeAnd o (λ rest. StopsAt input rest m first written'))
      (sym p.passed.known) (record {
        bytes = p.passed.used ++ fed;
        front = p.passed.whole ∙ sym (append_assoc p.passed.used fed p.passed.rest);
        within = rw h.1 (omega (arith, length-append p.done (line ∷ h.0), p.number, s.0.0));
        earlier = p.done;
        this = line;
        later = q.0;
        whole = q.1;
        number = p.number ∙ sym s.0.0;
        unread = rw s.0.0 s.0.1;
        answered = Answered-written p.done first written out slots written' p.answered s.1;
      })
  Progress-unread n fed remaining written out slots line written' Read p q h s = absurd s.0
  Progress-unread n fed remaining written out slots line written' Write p q h s =
      subst (λ (o : Option (List ℕ)). IsSomeAnd o (λ rest. Unit {0})) (sym p.passed.known) tt
  Progress-unread n fed remaining written out slots line written' Memory p q h s =
      subst (λ (o : Option (List ℕ)). IsSomeAnd o (λ rest. AnswersSome input rest first written'))
      (sym p.passed.known) (record {
        bytes = p.passed.used ++ fed;
        front = p.passed.whole ∙ sym (append_assoc p.passed.used fed p.passed.rest);
        number = length p.done;
        ended = omega (arith, line_feeds-append p.passed.used fed, p.passed.ended);
        answered = subst (λ (ls : List (List ℕ)). AnswersLines ls first written')
            (sym (Passed-front input p.done fed remaining p.passed))
            (Answered-written p.done first written out slots written' p.answered s.1);
        next = λ more. next_of (lines input) p.done line q.0 _ q.1 s.0;
      })

  -- the next line, which ends with a line feed, has no command
  pub Progress-unread-line : (n : ℕ) (fed : List ℕ) (remaining written : Option (List ℕ))
      (out : List ℕ) (slots : List Slot) (k : ℕ) (written' : Option (List ℕ)) (e : DriveError)
      → (p : Progress input first n fed remaining (append_known written out) slots)
      → Some k ≡ position (λ b. eqb b 10) fed
      → UnlessWrite {X = Unit {0}} (Err e) (IsUnread (strip_carriage_return (take k fed)) n e
      × Appends written written' out)
      → IsSomeAnd remaining (λ rest. SessionEnds {X = Unit {0}} (Err e) input rest first written')
  Progress-unread-line n fed remaining written out slots k written' e p here s =
      Progress-unread n fed remaining written out slots (strip_carriage_return (take k fed))
      written' e p (Passed-line input p.done fed remaining k p.passed here)
      (Passed-line (p.passed.used ++ fed) p.done fed (Some [])
      k (Passed-here input p.done fed remaining p.passed) here) s

  -- the last line, without a line feed at its end, has no command
  Progress-unread-last : (n : ℕ) (fed : List ℕ) (remaining written : Option (List ℕ))
      (out : List ℕ) (slots : List Slot) (written' : Option (List ℕ)) (e : DriveError)
      → (p : Progress input first n fed remaining (append_known written out) slots)
      → None ≡ position (λ b. eqb b 10) fed → IsAtEnd remaining
      → UnlessWrite {X = Unit {0}} (Err e) (IsUnread fed n e × (0 < length fed)
      × Appends written written' out)
      → IsSomeAnd remaining (λ rest. SessionEnds {X = Unit {0}} (Err e) input rest first written')
  Progress-unread-last n fed remaining written out slots written' (Unreadable m) p here end s =
      Progress-unread n fed remaining written out slots fed written' (Unreadable m) p
      ([], Passed-last input p.done fed remaining p.passed (sym here) s.1 end) (
        [],
        Passed-last (p.passed.used ++ fed) p.done fed (Some [])
            (Passed-here input p.done fed remaining p.passed) (sym here) s.1 refl,
      ) (s.0, s.2)
  Progress-unread-last n fed remaining written out slots written' Read p here end s =
      absurd s.0
  Progress-unread-last n fed remaining written out slots written' Write p here end s =
      subst (λ (o : Option (List ℕ)). IsSomeAnd o (λ rest. Unit {0})) (sym p.passed.known) tt
  Progress-unread-last n fed remaining written out slots written' Memory p here end s =
      Progress-unread n fed remaining written out slots fed written' Memory p
      ([], Passed-last input p.done fed remaining p.passed (sym here) s.1 end) (
        [],
        Passed-last (p.passed.used ++ fed) p.done fed (Some [])
            (Passed-here input p.done fed remaining p.passed) (sym here) s.1 refl,
      ) (s.0, s.2)

  -- the input ended
  pub Progress-ends : (n : ℕ) (fed : List ℕ) (remaining written : Option (List ℕ)) (out : List ℕ)
      (slots : List Slot) (written' : Option (List ℕ)) (slots' : List Slot)
      (r : Result (Unit {0}) DriveError)
      → Progress input first n fed remaining (append_known written out) slots
      → None ≡ position (λ b. eqb b 10) fed → IsAtEnd remaining
      → OnOk r (AnswersLast fed n slots slots' (append_known written out) written')
      → UnlessWrite r (IfErr r (λ e. IsUnread fed n e × (0 < length fed)
      × Appends written written' out))
      → IsSomeAnd remaining (λ rest. SessionEnds r input rest first written')
  Progress-ends n fed remaining written out slots written' slots' (Ok tt) p here end ok err =
      subst (λ (o : Option (List ℕ)). IsSomeAnd o (λ rest.
      SessionEnds {X = Unit {0}} (Ok tt) input rest first written')) (sym p.passed.known) (
        Progress-answered n fed remaining (append_known written out) slots written' slots' p here
            end ok,
        nil_at_end remaining p.passed.rest p.passed.known end,
      )
  Progress-ends n fed remaining written out slots written' slots' (Err e) p here end ok err =
      Progress-unread-last n fed remaining written out slots written' e p here end err

-- the commands that a session ran, if its last line was answered or there was none
pub RanAny-last : (first written : Option (List ℕ)) (out : List ℕ) (slots : List Slot)
    (fed : List ℕ) (n : ℕ) (written' : Option (List ℕ)) (slots' : List Slot)
    → RanAny first (append_known written out) slots
    → AnswersLast fed n slots slots' (append_known written out) written'
    → AnswersRun first written'
RanAny-last first written out slots [] n written' slots' (commands, a) s =
    Ran-AnswersRun commands first written' slots
    (Ran-Keeps commands first (append_known written out) written' slots a s.1)
RanAny-last first written out slots (b ∷ bytes) n written' slots' a s =
    let next = RanAny-next first (append_known written out) slots (b ∷ bytes) n written' slots' a s
    in
    Ran-AnswersRun next.0 first written' slots' next.1

-- no byte was read and no line answered
pub AnswersSome-none : (input : List ℕ) (written : Option (List ℕ))
    → AnswersSome input input written written
AnswersSome-none input written = record {
  bytes = [];
  front = refl;
  number = 0;
  ended = omega arith;
  answered = Answered-written [] written written [] empty_slots written (Answered-nil written)
      (Appends-nil written);
  next = λ more. absurd (omega (arith, more));
}

-- memory ran out before any byte was read
pub SessionEnds-none : (input : List ℕ) (remaining written : Option (List ℕ))
    → remaining ≡ Some input → IsSomeAnd remaining (λ rest.
    SessionEnds {X = Unit {0}} (Err Memory) input rest written written)
SessionEnds-none input remaining written e = subst (λ (o : Option (List ℕ)).
    IsSomeAnd o (λ rest. AnswersSome input rest written written)) (sym e)
    (AnswersSome-none input written)

-- a proposition that holds also holds unless a write failed
pub UnlessWrite-anyway : (r : Result (Unit {0}) DriveError) (P : Type 0) → P → UnlessWrite r P
UnlessWrite-anyway (Ok x) P h = h
UnlessWrite-anyway (Err (Unreadable line)) P h = h
UnlessWrite-anyway (Err Read) P h = h
UnlessWrite-anyway (Err Write) P h = tt
UnlessWrite-anyway (Err Memory) P h = h

-- the commands that a session ran, also if its last line has no command
pub Run-ends : (first written : Option (List ℕ)) (out : List ℕ) (slots : List Slot)
    (fed : List ℕ) (n : ℕ) (written' : Option (List ℕ)) (slots' : List Slot)
    (r : Result (Unit {0}) DriveError) → RanAny first (append_known written out) slots
    → OnOk r (AnswersLast fed n slots slots' (append_known written out) written')
    → UnlessWrite r (IfErr r (λ e. IsUnread fed n e × (0 < length fed)
    × Appends written written' out)) → UnlessWrite r (AnswersRun first written')
Run-ends first written out slots fed n written' slots' (Ok tt) a ok err =
    RanAny-last first written out slots fed n written' slots' a ok
Run-ends first written out slots fed n written' slots' (Err (Unreadable m)) a ok err =
    RanAny-written first written out slots written' a err.2
Run-ends first written out slots fed n written' slots' (Err Read) a ok err = absurd err.0
Run-ends first written out slots fed n written' slots' (Err Write) a ok err = tt
Run-ends first written out slots fed n written' slots' (Err Memory) a ok err =
    RanAny-written first written out slots written' a err.2
