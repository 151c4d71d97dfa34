use Rattle.std.proofs.Common.{rules, ◌≡◌, Bool, List, ◌+◌, ◌++◌, ◌∷◌, [], length, take}
use Rattle.std.proofs.Common.{sym, ap, ◌∙◌, arith, subst}
use Rattle.std.proofs.lemmas.List.{length-append, nil_from_length}
use Rattle.vb_bits.specs.Bits.{count}
use Rattle.vb_directory.specs.Counts.{AreCounts}
use Rattle.vb_ranked.proofs.make_ready.make_first_ready.Goals as goal

pub returns-clause-ready : goal.returns-clause-ready
returns-clause-ready g c =
    let l : List Bool = c.args.set.now.bits in
    let none : length l ≡ 0 = c.requires.none in
    let bits : c.make_first_room.new.set.bits ≡ l =
    ap (λ s. s.bits) c.make_first_room.ensures.set in
    record {
      room = omega (arith, ap length bits, none, c.in_ok-make_first_room.ensures.room);
      counts_room = rw c.push.ensures.room c.in_ok-make_first_room.ensures.counts_room;
      exact_with = λ v.
          let more : length (l ++ v ∷ []) ≡ length l + 1 = length-append l (v ∷ []) in
          subst (λ x. AreCounts (x ++ v ∷ []) c.push.new.self.numbers) (sym bits)
          (c.push.ensures.pushed l (l ++ v ∷ [])
          (subst (AreCounts l) (sym c.make_first_room.ensures.numbers) c.requires.exact) none
          (sym (ap count (nil_from_length l none))) (omega (arith, none))
          (ap (λ n. take n (l ++ v ∷ [])) none ∙ sym (nil_from_length l none))
          (omega (arith, more)) (omega (arith, more, none)));
    }

pub returns-clause-needs : goal.returns-clause-needs
returns-clause-needs g c = record {
  in_room = search (rules);
  fits = search (rules);
  too_many = search (rules);
  err = search (rules);
}
