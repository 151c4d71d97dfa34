-- Items read from bytes.
use Rattle.std.proofs.Common.{◌≡◌, ℕ, ◌+◌, ◌*◌, ◌%◌, ◌<◌, List, [], ◌∷◌, ◌++◌}
use Rattle.std.proofs.Common.{length, take, drop, get_or, append_assoc, sym, ap, ◌∙◌}
use Rattle.std.proofs.Math.Seq.{take-append_seam, drop-append_seam}
use Rattle.std.proofs.lemmas.Grind.{flat_map-append}
use Rattle.std.proofs.lemmas.Nat.{mod-mul-add}
use Rattle.std.proofs.lemmas.List.{append-nil, nil_from_length}
use Rattle.std.proofs.lemmas.List.Elements.{All-same, All-take, All-drop, All-from_get_or}
use mir.Syntax.{w8}
use mir.Val.{Fits}
use Rattle.vb_core.specs.Elements.{AreBytes}
use Rattle.vb_core.specs.ByteForm.{byteform}

-- every element of a part of a byte slice is a byte
pub part_are_bytes : (bytes front part rest : List ℕ) → ((i : ℕ) → Fits w8 (get_or bytes i 0))
    → front ++ (part ++ rest) ≡ bytes → AreBytes part
part_are_bytes bytes front part rest fits is =
    let all : AreBytes bytes =
    All-from_get_or (λ byte. byte < 256) bytes 0 (λ i _. (fits i).fits) in
    let behind : drop (length front) bytes ≡ part ++ rest =
    ap (drop (length front)) (sym is) ∙ drop-append_seam front (part ++ rest) in
    let here : take (length part) (drop (length front) bytes) ≡ part =
    ap (take (length part)) behind ∙ take-append_seam part rest in
    All-same (λ byte. byte < 256) part _ (sym here)
    (All-take (λ byte. byte < 256) (length part) _
    (All-drop (λ byte. byte < 256) (length front) bytes all))

-- if whole items leave fewer bytes than one item has, and the item's size divides the number of
-- bytes, they leave none
pub no_bytes_left : (items size rest bytes : ℕ) → rest < size → items * size + rest ≡ bytes
    → bytes % size ≡ 0 → rest ≡ 0
no_bytes_left items size rest bytes few all whole =
    sym (mod-mul-add items size rest few) ∙ ap (λ n. n % size) all ∙ whole

module _ {T : Type 0} (form : T → List ℕ) (items : List T) (bytes : List ℕ) where
  -- one more item, whose bytes are the next ones
  pub byteform-more : (more : List T) (item : T) (part before after : List ℕ)
      → more ≡ items ++ item ∷ [] → form item ≡ part → before ≡ part ++ after
      → byteform form items ++ before ≡ bytes → byteform form more ++ after ≡ bytes
  byteform-more more item part before after longer next cut read =
      let front = byteform form items in
      ap (λ l. byteform form l ++ after) longer
      ∙ ap (λ l. l ++ after) (flat_map-append form items (item ∷ []))
      ∙ ap (λ l. (front ++ l) ++ after) (append-nil (form item) ∙ next)
      ∙ append_assoc front part after
      ∙ ap (λ l. front ++ l) (sym cut)
      ∙ read

  -- once no bytes are left, the items read so far have all the bytes
  pub byteform-whole : (rest : List ℕ) → length rest ≡ 0 → byteform form items ++ rest ≡ bytes
      → byteform form items ≡ bytes
  byteform-whole rest none read =
      sym (append-nil (byteform form items))
      ∙ ap (λ l. byteform form items ++ l) (sym (nil_from_length rest none)) ∙ read
