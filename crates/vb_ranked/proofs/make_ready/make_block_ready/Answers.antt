use Rattle.std.proofs.Common.{rules, ◌≡◌, Bool, List, ◌+◌, ◌*◌, ◌/◌, ◌++◌, ◌∷◌, [], length, take}
use Rattle.std.proofs.Common.{sym, ap, ◌∙◌, arith, subst}
use Rattle.std.proofs.Math.Seq.{take-length}
use Rattle.std.proofs.lemmas.List.{length-append, take-append-le}
use Rattle.vb_bits.specs.Bits.{count}
use Rattle.vb_directory.specs.Counts.{AreCounts}
use Rattle.vb_ranked.proofs.make_ready.make_block_ready.Goals as goal

pub returns-clause-ready : goal.returns-clause-ready
returns-clause-ready g c =
    let l : List Bool = c.args.set.now.bits in
    let len : c.len-len.result ≡ length l = c.len-len.ensures in
    let whole : length l ≡ 512 * (c.len-len.result / 512) =
    omega (arith, len, c.requires.whole) in
    let ones : c.rank-ones.result ≡ count l =
    c.rank-ones.ensures ∙ ap (λ x. count (take c.len-len.result x)) c.as_view.ensures.bits
    ∙ ap (λ n. count (take n l)) len ∙ ap count (take-length l) in
    let bits : c.make_room.new.set.bits ≡ l = ap (λ s. s.bits) c.make_room.ensures.set in
    record {
      room = rw bits c.in_ok-make_room.ensures.room;
      counts_room = rw c.push.ensures.room c.in_ok-make_room.ensures.counts_room;
      exact_with = λ v.
          let more : length (l ++ v ∷ []) ≡ length l + 1 = length-append l (v ∷ []) in
          subst (λ x. AreCounts (x ++ v ∷ []) c.push.new.self.numbers) (sym bits)
          (c.push.ensures.pushed l (l ++ v ∷ [])
          (subst (AreCounts l) (sym c.make_room.ensures.numbers) c.requires.exact) whole ones
          (omega (arith, len, c.len-len.type_inv))
          (take-append-le (length l) l (v ∷ []) (omega arith) ∙ take-length l)
          (omega (arith, more)) (omega (arith, more)));
    }

pub returns-clause-needs : goal.returns-clause-needs
returns-clause-needs g c = record {
  in_room = search (rules);
  fits = search (rules);
  too_many = search (rules);
  err = search (rules);
}
