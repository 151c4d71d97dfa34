-- The slots of the pool as those of the machine.
use Rattle.std.proofs.Common.{◌≡◌, ◌≢◌, ℕ, zero, suc, Bool, true, false, List, [], ◌∷◌, refl, None}
use Rattle.std.proofs.Common.{map, ap, ap₂, slice_set, slice_get, Some, option_map, sym, ◌∙◌}
use Rattle.std.proofs.lemmas.List.{map-set, set-get_or, set-set}
use Rattle.std.proofs.lemmas.Option.{get_or_from_slice_get, none-some, slice_get-map}
use Rattle.std.specs.Option.{option_and_then, option_map_or}
use Rattle.vb_command.specs.Machine.{Slot, Empty, Open, Frozen, frozen_list, frozen_at, is_vacant}
use Rattle.vb_command.specs.Machine.{open_at, vacant_at}
use mathlib.Core.Path.{fun_ext}

-- writing an item over itself changes nothing
pub set_same : {T : Type 0} (l : List T) (k : ℕ) (x : T)
    → slice_get l k ≡ Some x → slice_set l k x ≡ l
set_same l k x held = rw (get_or_from_slice_get l k x x held) at (set-get_or l k x)

-- an index without an item is not written
pub set_none : {T : Type 0} (l : List T) (k : ℕ) (x : T)
    → slice_get l k ≡ None → slice_set l k x ≡ l
set_none [] k x none = refl
set_none (z ∷ zs) zero x none = absurd (none-some z (sym none))
set_none (z ∷ zs) (suc k) x none = ap (λ l. z ∷ l) (set_none zs k x none)

-- an item of a list under a view
pub get_seen : {S M : Type 0} (see : S → M) (l : List S) (seen : List M) (k : ℕ) (x : S)
    → map see l ≡ seen → Some x ≡ slice_get l k → Some (see x) ≡ slice_get seen k
get_seen see l seen k x view held =
    ap (option_map see) held ∙ sym (slice_get-map see l k) ∙ ap (λ m. slice_get m k) view

-- after a loan of a part of item k, the view of the list differs only at index k
pub lent : {S M W E : Type 0} (ends : (W → List M) → List M → E) (see : S → M) (make : W → S)
    (l : List S) (seen : List M) (k : ℕ) (x : S)
    → map see l ≡ seen → Some x ≡ slice_get l k
    → ends (λ w. map see (slice_set l k (make w))) (map see (slice_set l k x))
    ≡ ends (λ w. slice_set seen k (see (make w))) seen
lent ends see make l seen k x view held =
    ap₂ ends
    (fun_ext (λ w. map-set see l k (make w) ∙ ap (λ m. slice_set m k (see (make w))) view))
    (ap (map see) (set_same l k x (sym held)) ∙ view)

-- a slot other than the one that was written
get_beside : {T : Type 0} (l : List T) (k j : ℕ) (x : T)
    → k ≢ j → slice_get (slice_set l k x) j ≡ slice_get l j
get_beside [] k j x other = refl
get_beside (z ∷ zs) zero zero x other = absurd (other refl)
get_beside (z ∷ zs) zero (suc j) x other = refl
get_beside (z ∷ zs) (suc k) zero x other = refl
get_beside (z ∷ zs) (suc k) (suc j) x other = get_beside zs k j x (λ e. other (ap suc e))

-- a slot that released its set holds none
pub frozen_given : (s : List Slot) (k : ℕ) → frozen_at (slice_set s k Empty) k ≡ None
frozen_given [] k = refl
frozen_given (z ∷ zs) zero = refl
frozen_given (z ∷ zs) (suc k) = frozen_given zs k

-- a slot that released its set is empty
pub vacant_given : (s : List Slot) (k : ℕ) (l : List Bool)
    → frozen_at s k ≡ Some l → vacant_at (slice_set s k Empty) k ≡ true
vacant_given [] k l held = absurd (none-some l held)
vacant_given (z ∷ zs) zero l held = refl
vacant_given (z ∷ zs) (suc k) l held = vacant_given zs k l held

-- all other slots hold the same frozen sets
pub frozen_beside : (s : List Slot) (k j : ℕ)
    → k ≢ j → frozen_at (slice_set s k Empty) j ≡ frozen_at s j
frozen_beside s k j other = ap (option_and_then frozen_list) (get_beside s k j Empty other)

-- all other slots are empty exactly if they were
pub vacant_beside : (s : List Slot) (k j : ℕ)
    → k ≢ j → vacant_at (slice_set s k Empty) j ≡ vacant_at s j
vacant_beside s k j other =
    ap (λ o. option_map_or is_vacant o false) (get_beside s k j Empty other)

-- one slot released its set, for `#[tactic(auto, using(..))]`
pub ruleset given = (frozen_given, vacant_given, frozen_beside, vacant_beside)

-- if a slot releases an open set, all slots hold the same frozen sets as before
pub frozen_still : (s : List Slot) (k j : ℕ) (l : List Bool)
    → open_at s k ≡ Some l → frozen_at (slice_set s k Empty) j ≡ frozen_at s j
frozen_still [] k j l held = refl
frozen_still (Empty ∷ zs) zero zero l held = absurd (none-some l held)
frozen_still (Open m ∷ zs) zero zero l held = refl
frozen_still (Frozen m ∷ zs) zero zero l held = absurd (none-some l held)
frozen_still (z ∷ zs) zero (suc j) l held = refl
frozen_still (z ∷ zs) (suc k) zero l held = refl
frozen_still (z ∷ zs) (suc k) (suc j) l held = frozen_still zs k j l held

-- putting an open set back changes nothing
pub open_back : (s : List Slot) (k : ℕ) (l : List Bool)
    → open_at s k ≡ Some l → slice_set s k (Open l) ≡ s
open_back [] k l held = refl
open_back (Empty ∷ zs) zero l held = absurd (none-some l held)
open_back (Open m ∷ zs) zero l held = ap (λ x. Open x ∷ zs) (cc)
open_back (Frozen m ∷ zs) zero l held = absurd (none-some l held)
open_back (z ∷ zs) (suc k) l held = ap (λ x. z ∷ x) (open_back zs k l held)

-- one slot released its open set, for `#[tactic(auto, using(..))]`
pub ruleset taken = (set-set, frozen_still, open_back)

-- one slot is written, for `#[tactic(auto, using(..))]`
pub ruleset slots = (map-set, set_same, set-set)
