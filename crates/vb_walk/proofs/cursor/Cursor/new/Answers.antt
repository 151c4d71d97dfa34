use Rattle.std.proofs.Common.{◌≡◌, inl, inr, ◌+◌, ◌-◌, ◌*◌, ◌/◌, ◌%◌, ◌∙◌, ap, arith}
use Rattle.std.proofs.lemmas.Bool.{cases_lt}
use Rattle.vb_bits.specs.Digits.{has_bit}
use Rattle.vb_bits.proofs.ReadLemmas.{has_bit-bits}
use Rattle.vb_walk.specs.declared.cursor.Cursor.{Cursor}
use Rattle.vb_walk.proofs.WalkLemmas.{pending_below, pending_ahead}
use Rattle.vb_walk.proofs.cursor.Cursor.new.Goals as goal

pub returns-clause-bits : goal.returns-clause-bits
returns-clause-bits c = λ i l.
    let b = c.args.bytes.now in
    let o = c.args.offset in
    let n = c.min-count.result in
    let w = c.read_rest.result in
    let front : Cursor = record {
      offset = o;
      base = 0;
      next = n;
      byte = (o + n) / 8;
      end = (o + n) / 8 + (c.args.len - n) / 64 * 8;
      left = (c.args.len - n) % 64;
      word = w;
    } in
    elim (cases_lt i n) [
      | inl below ↦
          let place : i - 0 ≡ i = omega arith in
          pending_below b front i below
          ∙ ap (has_bit w) place ∙ has_bit-bits b w o n i c.read_rest.ensures.digits below
      | inr above ↦ pending_ahead b front i above
    ]
