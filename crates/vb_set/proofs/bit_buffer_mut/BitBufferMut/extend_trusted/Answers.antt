use Rattle.std.proofs.Common.{rules, ◌≡◌, Result, Ok, Err, IsOk, OnOk, OnErr, length}
use Rattle.std.proofs.Common.{ap, ◌∙◌, arith}
use Rattle.std.specs.Prelude.{MatchResult, IsOkUnless}
use Rattle.vb_set.proofs.AddsLemmas.{left-along}
use Rattle.vb_set.proofs.bit_buffer_mut.BitBufferMut.extend_trusted.Goals as goal

-- a property of the value, if there is one
of_value : {B E : Type 0} (r : Result B E) (P Q R : Type 0) → IsOk r
    → MatchResult r (λ _. P) (λ _. Q) → (P → R) → OnOk r R
of_value (Ok _) P Q R ok said f = f said
of_value (Err _) P Q R ok said f = absurd (search (rules, ok))

-- a property of the error holds if there is no error
no_error : {B E : Type 0} (r : Result B E) (P : Type 0) → IsOk r → OnErr r P
no_error (Ok _) P ok = tt
no_error (Err _) P ok = absurd (search (rules, ok))

unless : {B E : Type 0} (r : Result B E) (e : E) → IsOk r → IsOkUnless r e
unless (Ok _) e ok = tt
unless (Err _) e ok = absurd (search (rules, ok))

-- there is capacity for all items
added : (g : _) (c : goal.After-extend g)
    → IsOk c.extend.result × (c.extend.new.self.room ≡ c.reserve.new.self.room)
added g c =
    let law = g.met.I.TrustedLen.counts in
    c.extend.ensures.in_room (λ it same xs t run. omega (
      arith,
      left-along _ _ g.I.TrustedLen.left law xs it t run,
      ap g.I.TrustedLen.left same,
      c.in_ok-reserve.ensures.room,
      ap (λ s. length s.bits) c.reserve.ensures.keeps,
      c.exact_len.ensures,
    ))

pub returns-clause-len : goal.returns-clause-len
returns-clause-len g c =
    let law = g.met.I.TrustedLen.counts in
    let adds = c.extend.ensures.adds in
    of_value c.extend.result _ _ _ (added g c).0 adds.4 (λ ends. omega (
      arith,
      adds.3.len,
      ap (λ s. length s.bits) c.reserve.ensures.keeps,
      left-along _ _ g.I.TrustedLen.left law adds.1 adds.0 ends.1.0 ends.1.1,
      law.none_left ends.1.0 ends.0 ends.1.2,
      ap g.I.TrustedLen.left adds.2,
    ))

pub returns-clause-stays : goal.returns-clause-stays
returns-clause-stays g c h = (added g c).1
    ∙ ap (λ s. s.room) (c.reserve.ensures.stays (omega (arith, h, c.exact_len.ensures)))

pub returns-clause-needs : goal.returns-clause-needs
returns-clause-needs g c =
    let ok = (added g c).0 in
    record {
      in_room = λ h. ok;
      fits = λ h. unless c.extend.result _ ok;
      too_many = λ h. absurd (search (
        rules,
        c.in_ok-reserve.ensures.needs.too_many (omega (
          arith,
          h,
          c.exact_len.ensures,
        )),
      ));
      err = no_error c.extend.result _ ok;
    }
