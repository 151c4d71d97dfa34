-- Bits appended by an appender.
use Rattle.std.proofs.Common.{◌≡◌, ◌+◌, ◌*◌, ◌^◌, ◌<◌, ◌≤◌, Bool, List, [], ◌∷◌, ◌++◌, length}
use Rattle.std.proofs.Common.{append_assoc, arith, refl, sym, ap, ◌∙◌, subst}
use Rattle.std.proofs.lemmas.List.{length-append}
use Rattle.std.specs.declared.clone.Clone.{Ghosts}
use Rattle.vb_bits.specs.Digits.{digits}
use Rattle.vb_bits.proofs.DigitsLemmas.{length-digits, digits_none}
use Rattle.vb_bits.proofs.PackedLemmas.{packed_below}
use Rattle.vb_set.specs.Appender.{set_of, pending_of, IsReady, HasAdded}
use Rattle.vb_set.specs.OpenSet.{OpenSet, AddsBits, KeepsStart}
use Rattle.vb_set.specs.declared.bit_appender.BitAppender.{BitAppender}
use Rattle.vb_set.proofs.AddsLemmas.{AddsBits-none, AddsBits-append}

module _ {A : Type 0} {g : Ghosts A} where
  -- an appender with the same set and the same limit is ready too
  pub IsReady-same : (a b : BitAppender A g) → IsReady a → set_of b ≡ set_of a → b.limit ≡ a.limit
      → IsReady b
  IsReady-same a b ready same limit =
      let bits : length (set_of b).bits ≡ length (set_of a).bits = ap (λ s. length s.bits) same in
      record {
        room = omega (arith, bits, limit, ap (λ s. s.room) same, ready.room);
        fits = omega (arith, bits, limit, ap (λ s. s.offset) same, ready.fits);
      }

  -- the set's bits and the pending ones together have the length of the bits at the start and those
  -- appended since
  pub HasAdded-len : (start : OpenSet) (xs : List Bool) (a : BitAppender A g)
      → HasAdded start xs a
      → length (set_of a).bits + length (pending_of a) ≡ length start.bits + length xs
  HasAdded-len start xs a h =
      omega (arith, h.adds.len, ap length h.all, length-append h.written (pending_of a))

  -- if one more bit may be pending, offset and length with it fit in 64 bits
  pub HasAdded-fits : (start : OpenSet) (xs : List Bool) (a : BitAppender A g)
      → HasAdded start xs a → a.count < a.limit
      → start.offset + length start.bits + length xs + 1 < 2 ^ 64
  HasAdded-fits start xs a h more = omega (
    arith,
    more,
    h.ready.fits,
    h.keeps.offset,
    HasAdded-len start xs a h,
    length-digits a.word 0 a.count,
  )

  -- no bit is appended yet
  pub HasAdded-none : (a : BitAppender A g) → a.count ≡ 0 → a.limit ≡ 0
      → (set_of a).offset + length (set_of a).bits ≤ 8 * length (set_of a).bytes
      → length (set_of a).bits ≤ (set_of a).room
      → (set_of a).offset + length (set_of a).bits < 2 ^ 64 → HasAdded (set_of a) [] a
  HasAdded-none a count limit inside room fits = record {
    written = [];
    adds = AddsBits-none (set_of a) (set_of a) refl inside;
    all = ap (λ n. digits a.word 0 n) count ∙ digits_none a.word 0;
    keeps = record { offset = refl; alignment = refl; room = omega arith };
    stays = λ _. refl;
    ready = record { room = omega (arith, limit, room); fits = omega (arith, limit, fits) };
  }

  -- nothing is appended
  pub HasAdded-same : (start : OpenSet) (xs : List Bool) (a b : BitAppender A g)
      → HasAdded start xs a → set_of b ≡ set_of a → b.limit ≡ a.limit
      → pending_of b ≡ pending_of a → HasAdded start xs b
  HasAdded-same start xs a b h same limit pending = record {
    written = h.written;
    adds = subst (AddsBits h.written start) (sym same) h.adds;
    all = ap (λ l. h.written ++ l) pending ∙ h.all;
    keeps = subst (KeepsStart start) (sym same) h.keeps;
    stays = λ within. ap (λ s. s.room) same ∙ h.stays within;
    ready = IsReady-same a b h.ready same limit;
  }

  -- one more bit is pending
  pub HasAdded-pending : (start : OpenSet) (xs : List Bool) (v : Bool) (a b : BitAppender A g)
      → HasAdded start xs a → set_of b ≡ set_of a → b.limit ≡ a.limit
      → pending_of b ≡ pending_of a ++ v ∷ [] → HasAdded start (xs ++ v ∷ []) b
  HasAdded-pending start xs v a b h same limit pending = record {
    written = h.written;
    adds = subst (AddsBits h.written start) (sym same) h.adds;
    all = ap (λ l. h.written ++ l) pending ∙ sym (append_assoc h.written (pending_of a) (v ∷ []))
        ∙ ap (λ l. l ++ v ∷ []) h.all;
    keeps = subst (KeepsStart start) (sym same) h.keeps;
    stays = λ within. ap (λ s. s.room) same
        ∙ h.stays (omega (arith, within, length-append xs (v ∷ [])));
    ready = IsReady-same a b h.ready same limit;
  }

  -- the pending bits are written
  pub HasAdded-written : (start end : OpenSet) (xs : List Bool) (a : BitAppender A g)
      → HasAdded start xs a → AddsBits (pending_of a) (set_of a) end → AddsBits xs start end
  HasAdded-written start end xs a h rest =
      subst (λ l. AddsBits l start end) h.all
      (AddsBits-append h.written (pending_of a) start (set_of a) end h.keeps.offset h.adds rest)

  -- the pending bits are written, and one is pending
  pub HasAdded-started : (start : OpenSet) (xs : List Bool) (v : Bool) (a b : BitAppender A g)
      → HasAdded start xs a → AddsBits (pending_of a) (set_of a) (set_of b)
      → KeepsStart (set_of a) (set_of b)
      → (length (set_of a).bits + (length (pending_of a) + 1) ≤ (set_of a).room
      → (set_of b).room ≡ (set_of a).room) → IsReady b
      → pending_of b ≡ v ∷ [] → HasAdded start (xs ++ v ∷ []) b
  HasAdded-started start xs v a b h adds keeps stays ready pending = record {
    written = xs;
    adds = HasAdded-written start (set_of b) xs a h adds;
    all = ap (λ l. xs ++ l) pending;
    keeps = record {
      offset = keeps.offset ∙ h.keeps.offset;
      alignment = keeps.alignment ∙ h.keeps.alignment;
      room = omega (arith, keeps.room, h.keeps.room);
    };
    stays = λ within.
        let low : length start.bits + length xs + 1 ≤ start.room =
        omega (arith, within, length-append xs (v ∷ [])) in
        stays (omega (arith, low, HasAdded-len start xs a h, h.keeps.room))
        ∙ h.stays (omega (arith, low));
    ready = ready;
  }

-- ---- for `#[tactic(auto, using(..))]`
-- words of pending bits
pub ruleset appends = (length-digits, digits_none, packed_below)
