use Rattle.std.proofs.Common.{◌+◌, ◌*◌, ◌/◌, ◌++◌, refl, sym, ap, ◌∙◌, arith}
use Rattle.std.proofs.lemmas.List.{append-nil}
use Rattle.vb_bits.specs.Digits.{digits}
use Rattle.vb_bits.proofs.DigitsLemmas.{digits_none}
use Rattle.vb_filter.specs.Pending.{first_bits}
use Rattle.vb_filter.proofs.PendingLemmas.{Writes_up_to}
use Rattle.vb_filter.proofs.filter.push_kept.Goals as goal

pub returns-then-added-eq0-clause-number : goal.returns-then-added-eq0-clause-number
returns-then-added-eq0-clause-number c =
    omega (arith, c.kept_digits-packed.ensures.count, c.if-added-eq0.true)

pub returns-then-added-eq0-clause-written : goal.returns-then-added-eq0-clause-written
returns-then-added-eq0-clause-written c =
    let before = first_bits c.args.out.now c.args.pending c.args.len in
    let kept = c.kept_digits-packed in
    sym (append-nil before)
    ∙ ap (λ l. before ++ l) (sym (digits_none kept.result.0 0)
    ∙ ap (digits kept.result.0 0) (sym c.if-added-eq0.true) ∙ kept.ensures.kept)

pub returns-then-added-eq0-clause-others : goal.returns-then-added-eq0-clause-others
returns-then-added-eq0-clause-others c =
    Writes_up_to c.args.out.now c.args.out.now (64 * (c.args.len / 64)) refl (λ i h. refl)

pub push_digits-requires-clause-room : goal.push_digits-requires-clause-room
push_digits-requires-clause-room c = record {
  inside = omega (arith, c.kept_digits-packed.ensures.count, c.requires.room.inside);
  fits = omega (arith, c.kept_digits-packed.ensures.count, c.requires.room.fits);
}

pub overflow_add-result : goal.overflow_add-result
overflow_add-result c = omega (arith, c.kept_digits-packed.ensures.count, c.requires.room.fits)

pub returns-clause-number : goal.returns-clause-number
returns-clause-number c = ap (λ k. c.args.len + k) c.kept_digits-packed.ensures.count

pub returns-clause-written : goal.returns-clause-written
returns-clause-written c =
    c.push_digits.ensures.written
    ∙ ap (λ l. first_bits c.args.out.now c.args.pending c.args.len ++ l)
    c.kept_digits-packed.ensures.kept
