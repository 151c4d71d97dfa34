-- The effect of a call on the answers that were written or wait.
use Rattle.std.specs.Prelude.{◌≡◌, ℕ, ◌+◌, List, [], ◌++◌, length, take, Option, Result, Ok, Err}
use Rattle.std.specs.Prelude.{OnOk}
use Rattle.std.specs.Io.KnownBytes.{append_known, Appends}
use Rattle.std.proofs.Common.{refl, ap, ◌∙◌}
use Rattle.std.proofs.KnownBytes.{Appends-nil, Appends-trans}
use Rattle.vb_script.specs.Fault.{CountsFault}
use Rattle.vb_script.specs.declared.fault.Fault.{Fault}

-- the text was appended to the written and the waiting bytes, or one more write failed
pub record Adds {X : Type 0} (text : List ℕ) (r : Result X Fault)
    (written : Option (List ℕ)) (waiting : List ℕ) (written' : Option (List ℕ)) (waiting' : List ℕ)
    (faults faults' : ℕ) : Type 0 where
  pub told : OnOk r (Appends (append_known written waiting) (append_known written' waiting') text)
  pub writes : CountsFault r faults faults'

-- a text was put after the first `end` items, which do not change; it ends at index `behind`, and
-- the length of the list is the same
pub record PutsBehind (end : ℕ) (text old new : List ℕ) (behind : ℕ) : Type 0 where
  pub ends : behind ≡ end + length text
  pub len : length new ≡ length old
  pub front : take behind new ≡ take end old ++ text

-- nothing is appended
pub Adds-nil : (written : Option (List ℕ)) (waiting : List ℕ) (faults : ℕ)
    → Adds [] (Ok (tt {0})) written waiting written waiting faults faults
Adds-nil written waiting faults = record {
  told = Appends-nil (append_known written waiting);
  writes = refl;
}

-- a text is appended after another one
pub Adds-trans : (a b c : Option (List ℕ)) (x y z front back : List ℕ) (e f g : ℕ)
    (r : Result (Unit {0}) Fault) → Adds front (Ok (tt {0})) a x b y e f → Adds back r b y c z f g
    → Adds (front ++ back) r a x c z e g
Adds-trans a b c x y z front back e f g (Ok done) h k = record {
  told = Appends-trans _ _ _ front back h.told k.told;
  writes = k.writes ∙ h.writes;
}
Adds-trans a b c x y z front back e f g (Err why) h k = record {
  told = tt;
  writes = k.writes ∙ ap (λ n. n + 1) h.writes;
}
