-- The caller's memory, written to its end.
use Rattle.std.proofs.Common.{◌≡◌, ℕ, ◌≤◌, List, ◌++◌, length, take, drop, sym, ap, ◌∙◌, arith}
use Rattle.std.specs.Prelude.{min}
use Rattle.std.proofs.Math.Seq.{take-append_seam}
use Rattle.std.proofs.lemmas.List.{append_assoc, drop-append-le, length-append, length-take-le}
use Rattle.std.proofs.lemmas.List.{take-append-drop}
use Rattle.vb_bits.specs.Fills.{Fills}

-- the first values, up to the end of the memory
pub Fills-full : {T : Type 0} (front rest all old new : List T) (n : ℕ) → front ++ rest ≡ all
    → n ≡ length front → n ≡ length old → new ≡ front ++ drop n old → Fills all old new n
Fills-full front rest all old new n whole len full items =
    let first : take n all ≡ front =
    ap (λ l. take n l) (sym whole) ∙ ap (λ k. take k (front ++ rest)) len
    ∙ take-append_seam front rest in
    record {
      count = omega (arith, len, full, length-append front rest, ap length whole);
      items = items ∙ ap (λ l. l ++ drop n old) (sym first);
    }

-- the same from a write to the first k items alone, if no more items can be written
pub Fills-in_front : {T : Type 0} (all old new : List T) (k n : ℕ)
    → k ≡ min (length all) (length old) → Fills all (take k old) new n
    → Fills all old (new ++ drop k old) n
Fills-in_front all old new k n room front =
    let inside : k ≤ length old = omega (arith, room) in
    let long : length (take k old) ≡ k = length-take-le k old inside in
    let whole : n ≡ k = omega (arith, room, front.count, long) in
    let rest : drop n (take k old) ++ drop k old ≡ drop n old =
    sym (drop-append-le n (take k old) (drop k old) (omega (arith, whole, long)))
    ∙ ap (drop n) (take-append-drop k old) in
    record {
      count = whole ∙ room;
      items = ap (λ l. l ++ drop k old) front.items
          ∙ append_assoc (take n all) (drop n (take k old)) (drop k old)
          ∙ ap (λ l. take n all ++ l) rest;
    }
