use Rattle.std.proofs.Common.{sym, subst, arith}
use Rattle.std.specs.List.{FoldsTo}
use Rattle.vb_pack.specs.Asked.{CanAsk}
use Rattle.vb_pack.proofs.AnswersLemmas.{CanAsk-front, CanAsk-past, FoldsTo-append}
use Rattle.vb_bit_buffer.proofs.CalledLemmas.{window_cut}
use Rattle.vb_bit_buffer.proofs.bit_buffer.for_each.for_each_place.Goals as goal

pub places_in_part-requires-clause-callable : goal.places_in_part-requires-clause-callable
places_in_part-requires-clause-callable g c =
    let a = c.args in
    let all = window_cut a.bytes.now a.offset a.value a.len c.min-first.result
    (omega (arith, c.min-first.ensures)) in
    CanAsk-front (goal.F-step g) (goal.F-pre g) a.f.now _ _
    (subst (CanAsk (goal.F-pre g) (goal.F-step g) a.f.now) all c.requires.callable)

pub places_in_words-requires-clause-callable : goal.places_in_words-requires-clause-callable
places_in_words-requires-clause-callable g c =
    let a = c.args in
    let all = window_cut a.bytes.now a.offset a.value a.len c.min-first.result
    (omega (arith, c.min-first.ensures)) in
    let step = goal.F-step g in let pre = goal.F-pre g in
    CanAsk-front step pre c.places_in_part.new.f _ _
    (CanAsk-past step pre a.f.now _ _ c.places_in_part.new.f
    (subst (CanAsk pre step a.f.now) all c.requires.callable) c.places_in_part.ensures)

pub places_in_part-requires-2-clause-callable : goal.places_in_part-requires-2-clause-callable
places_in_part-requires-2-clause-callable g c =
    let a = c.args in
    let all = window_cut a.bytes.now a.offset a.value a.len c.min-first.result
    (omega (arith, c.min-first.ensures)) in
    let step = goal.F-step g in let pre = goal.F-pre g in
    CanAsk-past step pre c.places_in_part.new.f _ _ c.places_in_words.new.f
    (CanAsk-past step pre a.f.now _ _ c.places_in_part.new.f
    (subst (CanAsk pre step a.f.now) all c.requires.callable) c.places_in_part.ensures)
    c.places_in_words.ensures

pub returns : goal.returns
returns g c =
    let a = c.args in
    let all = window_cut a.bytes.now a.offset a.value a.len c.min-first.result
    (omega (arith, c.min-first.ensures)) in
    let last = c.places_in_part-2.new.f in
    subst (λ xs. FoldsTo (λ p i q. goal.F-step g p i tt q) a.f.now xs last) (sym all)
    (FoldsTo-append (λ p i q. goal.F-step g p i tt q) a.f.now _ _ c.places_in_part.new.f last
    c.places_in_part.ensures
    (FoldsTo-append (λ p i q. goal.F-step g p i tt q) c.places_in_part.new.f _ _
    c.places_in_words.new.f last c.places_in_words.ensures c.places_in_part-2.ensures))
