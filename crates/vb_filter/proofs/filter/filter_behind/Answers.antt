use Rattle.std.proofs.Common.{◌≡◌, ℕ, ◌+◌, ◌*◌, ◌/◌, ◌%◌, ◌≤◌, ◌++◌}
use Rattle.std.proofs.Common.{length, take, refl, sym, ap, subst, ◌∙◌, arith, append_assoc}
use Rattle.std.specs.Prelude.{slice_range}
use Rattle.std.proofs.lemmas.List.{append-nil, take_all}
use Rattle.vb_bits.specs.Bits.{bits, count}
use Rattle.vb_bits.specs.Digits.{digits}
use Rattle.vb_bits.specs.Kept.{kept_by}
use Rattle.vb_bits.specs.Writes.{Writes}
use Rattle.vb_bits.proofs.BitsLemmas.{length-bits}
use Rattle.vb_bits.proofs.WritesLemmas.{Writes-add}
use Rattle.vb_view.specs.View.{bits_of}
use Rattle.vb_filter.specs.Pending.{first_bits}
use Rattle.vb_filter.proofs.DepositLemmas.{Writes_behind_same}
use Rattle.vb_filter.proofs.FilteredBits.{word-kept_by}
use Rattle.vb_filter.proofs.PendingLemmas.{Writes_up_to, Writes_up_to-more}
use Rattle.vb_filter.proofs.filter.filter_behind.Goals as goal

pub loop-t-init : goal.loop-t-init
loop-t-init c =
    let out = c.args.out.now in
    let o = c.args.offset in
    let start : o + 0 ≡ o = omega arith in
    record {
      written = c.requires.pending ∙ sym (append-nil (bits out 0 o));
      number = sym start;
      clear = c.requires.clear;
      others = Writes_up_to out out (64 * (o / 64)) refl (λ i h. refl);
    }

pub loop-t-preserved : goal.loop-t-preserved
loop-t-preserved c =
    let mask = bits_of c.args.mask in
    let values = bits_of c.args.values in
    let o = c.args.offset in
    let t = c.loop-t.t in
    let inv = c.loop-t.invariant in
    let push = c.push_kept-next in
    let before = bits c.args.out.now 0 o in
    let front = kept_by (take (64 * t) mask) (take (64 * t) values) in
    let chunk = slice_range mask (64 * t) (64 * t + 64) in
    let kept = kept_by chunk (slice_range values (64 * t) (64 * t + 64)) in
    let word = word-kept_by mask values t 64 c.requires.same_len (omega arith) in
    record {
      written = push.ensures.written ∙ ap (λ l. l ++ kept) inv.written
          ∙ append_assoc before front kept ∙ ap (λ l. before ++ l) (sym word.front);
      number = omega (arith, push.ensures.number, inv.number, word.number);
      clear = push.ensures.clear;
      others = Writes_up_to-more c.args.out.now c.loop-t.out push.new.out
          (64 * (c.loop-t.len / 64)) (64 * (push.result.1 / 64))
          (omega (arith, push.ensures.number)) inv.others push.ensures.others;
    }

pub push_kept-next-requires-clause-room : goal.push_kept-next-requires-clause-room
push_kept-next-requires-clause-room c =
    let inv = c.loop-t.invariant in
    let word = word-kept_by (bits_of c.args.mask) (bits_of c.args.values) c.loop-t.t 64
    c.requires.same_len (omega arith) in
    record {
      inside =
          omega (arith, inv.number, word.room, c.requires.room.inside, inv.others.same_len);
      fits = omega (arith, inv.number, word.room, c.requires.room.fits);
    }

pub push_kept-last-requires-clause-room : goal.push_kept-last-requires-clause-room
push_kept-last-requires-clause-room c =
    let mask = bits_of c.args.mask in
    let q : ℕ = c.len-total.result / 64 in
    let end : c.loop-t.t ≡ q = omega arith in
    let inv = c.loop-t.invariant in
    let number = inv.number ∙ ap (λ t. c.args.offset + count (take (64 * t) mask)) end in
    let word = word-kept_by mask (bits_of c.args.values) q (c.len-total.result % 64)
    c.requires.same_len (omega (arith, c.len-total.ensures)) in
    record {
      inside = omega (arith, number, word.room, c.requires.room.inside, inv.others.same_len);
      fits = omega (arith, number, word.room, c.requires.room.fits);
    }

pub write_pending-requires : goal.write_pending-requires
write_pending-requires c =
    let mask = bits_of c.args.mask in
    let q : ℕ = c.len-total.result / 64 in
    let end : c.loop-t.t ≡ q = omega arith in
    let inv = c.loop-t.invariant in
    let push = c.push_kept-last.ensures in
    let number = inv.number ∙ ap (λ t. c.args.offset + count (take (64 * t) mask)) end in
    let word = word-kept_by mask (bits_of c.args.values) q (c.len-total.result % 64)
    c.requires.same_len (omega (arith, c.len-total.ensures)) in
    omega (
      arith,
      number,
      push.number,
      word.room,
      c.requires.room.inside,
      inv.others.same_len,
      push.others.same_len,
    )

pub overflow_sub-result : goal.overflow_sub-result
overflow_sub-result c = omega (arith, c.loop-t.invariant.number, c.push_kept-last.ensures.number)

pub returns-clause-count : goal.returns-clause-count
returns-clause-count c =
    let mask = bits_of c.args.mask in
    let q : ℕ = c.len-total.result / 64 in
    let end : c.loop-t.t ≡ q = omega arith in
    let word = word-kept_by mask (bits_of c.args.values) q (c.len-total.result % 64)
    c.requires.same_len (omega (arith, c.len-total.ensures)) in
    omega (
      arith,
      c.loop-t.invariant.number,
      ap (λ t. count (take (64 * t) mask)) end,
      c.push_kept-last.ensures.number,
      word.number,
      ap count (take_all (64 * (q + 1)) mask (omega (arith, c.len-total.ensures))),
    )

pub returns-clause-kept : goal.returns-clause-kept
returns-clause-kept c =
    let mask = bits_of c.args.mask in
    let values = bits_of c.args.values in
    let old = c.args.out.now in
    let o = c.args.offset in
    let q : ℕ = c.len-total.result / 64 in
    let n : ℕ = c.len-total.result % 64 in
    let end : c.loop-t.t ≡ q = omega arith in
    let total : length mask ≤ 64 * (q + 1) = omega (arith, c.len-total.ensures) in
    let word = word-kept_by mask values q n c.requires.same_len
    (omega (arith, c.len-total.ensures)) in
    let len : ℕ = c.loop-t.len in
    let push = c.push_kept-last in
    let out = push.new.out in
    let last : ℕ = push.result.1 in
    let before = bits old 0 o in
    let front = kept_by (take (64 * q) mask) (take (64 * q) values) in
    let kept = kept_by (slice_range mask (64 * q) (64 * q + n))
    (slice_range values (64 * q) (64 * q + n)) in
    let all : first_bits out push.result.0 last ≡ before ++ kept_by mask values =
    push.ensures.written
    ∙ ap (λ l. l ++ kept) (c.loop-t.invariant.written
    ∙ ap (λ t. before ++ kept_by (take (64 * t) mask) (take (64 * t) values)) end)
    ∙ append_assoc before front kept
    ∙ ap (λ l. before ++ l) (sym word.front
    ∙ ap (λ l. kept_by l (take (64 * (q + 1)) values)) (take_all (64 * (q + 1)) mask total)
    ∙ ap (kept_by mask) (take_all (64 * (q + 1)) values
    (omega (arith, total, c.requires.same_len)))) in
    Writes_behind_same old c.write_pending.new.out o (kept_by mask values)
    (subst (Writes old c.write_pending.new.out 0) all
    (Writes-add old out c.write_pending.new.out 0 (64 * (last / 64))
    (bits out 0 (64 * (last / 64))) (digits push.result.0 0 (last % 64))
    (omega (arith, length-bits out 0 (64 * (last / 64))))
    (Writes_up_to-more old c.loop-t.out out (64 * (len / 64)) (64 * (last / 64))
    (omega (arith, push.ensures.number)) c.loop-t.invariant.others push.ensures.others)
    c.write_pending.ensures))
