use Rattle.std.proofs.Common.{rules, ◌≡◌, ℕ, ◌+◌, ◌<◌, Bool, Option, List, [], ◌++◌, Result}
use Rattle.std.proofs.Common.{Ok, Err, IsErr, inl, inr, ⊎_elim, length, length-append, take}
use Rattle.std.proofs.Common.{refl, ap, ◌∙◌, arith}
use Rattle.std.specs.Prelude.{⊤, MatchResult}
use Rattle.std.specs.Iterator.{Yields}
use Rattle.std.specs.Result.{IsErrAnd}
use Rattle.vb_bits.specs.Digits.{digits}
use Rattle.vb_bits.proofs.DigitsLemmas.{length-digits}
use Rattle.vb_mem.proofs.Runs.{Yields-append}
use Rattle.vb_set.proofs.AddsLemmas.{AddsBits-none, AddsBits-append, Yields-front, Yields-word}
use Rattle.vb_set.proofs.bit_buffer_mut.BitBufferMut.extend.Given.{Over}
use Rattle.vb_set.proofs.bit_buffer_mut.BitBufferMut.extend.Goals as goal
use Rattle.vb_set.proofs.bit_buffer_mut.BitBufferMut.extend.Goals.{After-append_word}

-- an error is not a value
at_err : {B E : Type 0} (r : Result B E) (P Q : Type 0) → IsErr r → Q
    → MatchResult r (λ _. P) (λ _. Q)
at_err (Ok _) P Q err q = absurd (search (rules, err))
at_err (Err _) P Q err q = q

-- a property of an error also holds of the error that a caller returns unchanged
refused_by : {B E : Type 0} (r : Result B E) (P Q : E → Type 0) → IsErrAnd r P
    → ((e : E) → P e → Q e) → MatchResult r (λ _. ⊤) Q
refused_by (Ok _) P Q said f = tt
refused_by (Err e) P Q said f = f e said

-- n items came after those that were kept
record CameBehind {S : Type 0} (steps : S → Option Bool → S → Type 0) (start rest : S)
    (kept items : List Bool) (n : ℕ) : Type 0 where
  end : S
  last : Yields steps rest items end
  all : Yields steps start (kept ++ items) end
  len : length (kept ++ items) ≡ length kept + n

-- the items of the word came
came : (g : Over) (c : After-append_word g) → CameBehind g.I.IntoIter.Iterator.next_gives
    c.into_iter-rest.result c.loop.rest c.loop.invariant.given.0
    (digits c.next_word-word.result.0 0 c.next_word-word.result.1) c.next_word-word.result.1
came g c =
    let iter = g.I.IntoIter.Iterator in let kept = c.loop.invariant.given in
    let word = c.next_word-word in
    let d : List Bool = digits word.result.0 0 word.result.1 in
    let long = length-digits word.result.0 0 word.result.1 in
    let last = Yields-word iter.can_next iter.remaining iter.next_gives c.loop.rest d word.result.2
    word.ensures.gives (omega (arith, long, word.ensures.in_word)) in
    record {
      end = last.0;
      last = last.1;
      all = Yields-append iter.next_gives kept.0 d c.into_iter-rest.result c.loop.rest last.0 kept.1
          last.1;
      len = omega (arith, long, length-append kept.0 d);
    }

pub loop-init : goal.loop-init
loop-init g c =
    let asked = c.requires c.into_iter-rest.result c.into_iter-rest.ensures.into_iter_gives in
    record {
      can = asked.0;
      finite = asked.1;
      given = (
        [],
        refl,
        AddsBits-none c.args.self.now c.args.self.now refl (omega (
          arith,
          c.as_slice-bytes.ensures.window.inside,
          ap length c.as_slice-bytes.ensures.bytes,
        )),
      );
      offset = refl;
      alignment = refl;
      grows = omega arith;
      stays = λ h. refl;
    }

-- the words before, and the part of the last word for which there was capacity
pub returns-in_err-append_word-clause-adds : goal.returns-in_err-append_word-clause-adds
returns-in_err-append_word-clause-adds g c =
    let steps = g.I.IntoIter.Iterator.next_gives in
    let start = c.into_iter-rest.result in let inv = c.loop.invariant in let kept = inv.given in
    let word = came g (goal.at.returns-in_err-append_word-clause-adds g c).After-append_word in
    let d : List Bool = digits c.next_word-word.result.0 0 c.next_word-word.result.1 in
    let some = c.in_err-append_word.ensures.err in
    let cut = Yields-front steps some.0 d c.loop.rest word.end word.last in
    let run = Yields-append steps kept.0 (take some.0 d) start c.loop.rest cut.0 kept.1 cut.1 in (
      start,
      kept.0 ++ take some.0 d,
      c.into_iter-rest.ensures.into_iter_gives,
      AddsBits-append kept.0 (take some.0 d) c.args.self.now c.loop.self c.append_word.new.self
          inv.offset kept.2 some.1,
      at_err c.from_residual.result _ _ c.from_residual.ensures.0 (cut.0, run),
    )

-- if there had been capacity for all items, the word would have been appended
pub returns-in_err-append_word-clause-in_room : goal.returns-in_err-append_word-clause-in_room
returns-in_err-append_word-clause-in_room g c room =
    let start = c.into_iter-rest.result in let inv = c.loop.invariant in let kept = inv.given in
    let word = came g (goal.at.returns-in_err-append_word-clause-in_room g c).After-append_word in
    let all = room start c.into_iter-rest.ensures.into_iter_gives _ word.end word.all in
    let ok = c.in_err-append_word.ensures.in_room (omega (
      arith,
      all,
      kept.2.len,
      word.len,
      inv.grows,
    )) in
    absurd (search (rules, ok))

-- too many items came
pub returns-in_err-append_word-clause-err : goal.returns-in_err-append_word-clause-err
returns-in_err-append_word-clause-err g c =
    let start = c.into_iter-rest.result in let inv = c.loop.invariant in let kept = inv.given in
    let word = came g (goal.at.returns-in_err-append_word-clause-err g c).After-append_word in
    refused_by c.from_residual.result _ _ c.from_residual.ensures.1 (λ e same. ⊎_elim
    (λ memory. inl (same ∙ memory))
    (λ many. inr (
      same ∙ many.0,
      (
        start,
        kept.0 ++ digits c.next_word-word.result.0 0 c.next_word-word.result.1,
        word.end,
        c.into_iter-rest.ensures.into_iter_gives,
        word.all,
        omega (arith, many.1, kept.2.len, word.len, inv.offset),
      ),
    ))
    c.in_err-append_word.ensures.refused)

-- the words before and the last one, and then the end
pub returns-then-count-lt64-clause-adds : goal.returns-then-count-lt64-clause-adds
returns-then-count-lt64-clause-adds g c =
    let steps = g.I.IntoIter.Iterator.next_gives in
    let start = c.into_iter-rest.result in
    let inv = c.loop.invariant in
    let kept = inv.given in
    let word = c.next_word-word in
    let d : List Bool = digits word.result.0 0 word.result.1 in
    let few : length d < 64 = omega (arith, length-digits word.result.0 0 word.result.1) in
    let end = word.ensures.gives.0 few in
    let run = Yields-append steps kept.0 d start c.loop.rest end.1.0 kept.1 end.1.1 in (
      start,
      kept.0 ++ d,
      c.into_iter-rest.ensures.into_iter_gives,
      AddsBits-append kept.0 d c.args.self.now c.loop.self c.append_word.new.self inv.offset
          kept.2 c.in_ok-append_word.ensures.ok,
      (end.0, (end.1.0, run, end.1.2)),
    )

pub returns-then-count-lt64-clause-in_room : goal.returns-then-count-lt64-clause-in_room
returns-then-count-lt64-clause-in_room g c room =
    let start = c.into_iter-rest.result in let inv = c.loop.invariant in let kept = inv.given in
    let word = came g (goal.at.returns-then-count-lt64-clause-in_room g c).After-append_word in
    let all = room start c.into_iter-rest.ensures.into_iter_gives _ word.end word.all in
    let same = (c.append_word.ensures.in_room (omega (
      arith,
      all,
      kept.2.len,
      word.len,
      inv.grows,
    ))).1 in
    (refl, same ∙ inv.stays (omega (arith, all, kept.2.len, word.len)))

pub loop-smaller : goal.loop-smaller
loop-smaller g c =
    let word = c.next_word-word in
    let full : word.result.1 ≡ 64 = omega (arith, word.ensures.in_word, c.if-count-lt64.false) in
    (word.ensures.gives.1 (length-digits word.result.0 0 word.result.1 ∙ full)).1.2

pub loop-preserved : goal.loop-preserved
loop-preserved g c =
    let steps = g.I.IntoIter.Iterator.next_gives in
    let start = c.into_iter-rest.result in
    let inv = c.loop.invariant in
    let kept = inv.given in
    let word = c.next_word-word in
    let d : List Bool = digits word.result.0 0 word.result.1 in
    let long = length-digits word.result.0 0 word.result.1 in
    let full : word.result.1 ≡ 64 = omega (arith, word.ensures.in_word, c.if-count-lt64.false) in
    let gave = word.ensures.gives.1 (long ∙ full) in
    let run = Yields-append steps kept.0 d start c.loop.rest word.result.2 kept.1 gave.0 in
    let grows = c.append_word.ensures.grows in
    let added = c.in_ok-append_word.ensures.ok in
    record {
      can = gave.1.0;
      finite = gave.1.1;
      given = (
        kept.0 ++ d,
        run,
        AddsBits-append kept.0 d c.args.self.now c.loop.self c.append_word.new.self inv.offset
            kept.2 added,
      );
      offset = grows.offset ∙ inv.offset;
      alignment = grows.alignment ∙ inv.alignment;
      grows = omega (arith, grows.room, inv.grows);
      stays = λ h. (c.append_word.ensures.in_room (omega (
        arith,
        h,
        added.len,
        long,
        inv.grows,
      ))).1 ∙ inv.stays (omega (arith, h, added.len));
    }
