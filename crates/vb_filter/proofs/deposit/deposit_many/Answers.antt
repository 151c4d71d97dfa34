use Rattle.std.proofs.Common.{◌≡◌, ℕ, ◌+◌, ◌-◌, ◌*◌, ◌/◌, ◌%◌, ◌^◌, ◌<◌, ◌≤◌, ◌++◌, length}
use Rattle.std.proofs.Common.{take, drop, refl, sym, ap, subst, ◌∙◌, arith, append_assoc}
use Rattle.std.specs.Prelude.{slice_range}
use Rattle.std.proofs.lemmas.List.{append-nil, take_all}
use Rattle.vb_bits.specs.Bits.{bits, count}
use Rattle.vb_bits.specs.Digits.{digits}
use Rattle.vb_bits.specs.Writes.{Writes}
use Rattle.vb_bits.proofs.BitsLemmas.{bits-add, length-bits}
use Rattle.vb_bits.proofs.WritesLemmas.{Writes-add}
use Rattle.vb_view.specs.View.{bits_of}
use Rattle.vb_filter.specs.Pending.{first_bits}
use Rattle.vb_filter.specs.Spread.{spread_by}
use Rattle.vb_filter.proofs.DepositLemmas.{Writes_behind_same}
use Rattle.vb_filter.proofs.FilteredBits.{word-kept_by}
use Rattle.vb_filter.proofs.PendingLemmas.{Writes_up_to, Writes_up_to-more}
use Rattle.vb_filter.proofs.SpreadLemmas.{word-spread_by}
use Rattle.vb_filter.proofs.deposit.deposit_many.Goals as goal

pub loop-t-init : goal.loop-t-init
loop-t-init c =
    let out = c.args.out.now in
    let o = c.args.offset in
    let p : ℕ = c.read_bits-pending.result in
    let start : o + 0 ≡ o = omega arith in
    let place : o - o % 64 ≡ 0 + 64 * (o / 64) = omega arith in
    let whole : 64 * (o / 64) + o % 64 ≡ o = omega arith in
    let front = bits out 0 (64 * (o / 64)) in
    record {
      written = ap (first_bits out p) start
          ∙ ap (λ l. front ++ l) (c.read_bits-pending.ensures.digits
          ∙ ap (λ k. bits out k (o % 64)) place)
          ∙ sym (bits-add out 0 (64 * (o / 64)) (o % 64)) ∙ ap (bits out 0) whole
          ∙ sym (append-nil (bits out 0 o));
      number = refl;
      clear = subst (λ k. p < 2 ^ (k % 64)) (sym start) c.read_bits-pending.ensures.clear;
      others = Writes_up_to out out (64 * ((o + 0) / 64)) refl (λ i h. refl);
    }

pub spread_digits_of-word-requires-clause-enough : goal.spread_digits_of-word-requires-clause-enough
spread_digits_of-word-requires-clause-enough c =
    let mask = bits_of c.args.mask in
    let word = word-kept_by mask mask c.loop-t.t 64 refl (omega arith) in
    omega (arith, c.loop-t.invariant.number, word.room, c.requires.same_count)

pub loop-t-preserved : goal.loop-t-preserved
loop-t-preserved c =
    let mask = bits_of c.args.mask in
    let values = bits_of c.args.values in
    let t = c.loop-t.t in
    let old = c.args.out.now in
    let o = c.args.offset in
    let a : ℕ = o + 64 * t in
    let next : o + 64 * (t + 1) ≡ a + 64 = omega arith in
    let inv = c.loop-t.invariant in
    let made = c.spread_digits_of-word in
    let push = c.push_digits-pending in
    let word = word-kept_by mask mask t 64 refl (omega arith) in
    let before = bits old 0 o in
    let front = spread_by (take (64 * t) mask) values in
    let more : digits made.result.0 0 64 ≡ spread_by
    (slice_range mask (64 * t) (64 * t + 64)) (drop (count (take (64 * t) mask)) values) =
    made.ensures.spread ∙ ap (λ n. spread_by (slice_range mask (64 * t) (64 * t + 64))
    (drop n values)) inv.number in
    record {
      written = ap (first_bits push.new.out push.result) next ∙ push.ensures.written
          ∙ ap (λ l. l ++ digits made.result.0 0 64) inv.written
          ∙ append_assoc before front (digits made.result.0 0 64)
          ∙ ap (λ l. before ++ (front ++ l)) more
          ∙ ap (λ l. before ++ l) (sym (word-spread_by mask values t 64 (omega arith)));
      number = ap (λ k. k + made.result.1) inv.number
          ∙ ap (λ k. count (take (64 * t) mask) + k) made.ensures.count ∙ word.number;
      clear = subst (λ k. push.result < 2 ^ (k % 64)) (sym next) push.ensures.clear;
      others = subst (λ k. Writes old push.new.out 0 (bits push.new.out 0 (64 * (k / 64))))
          (sym next) (Writes_up_to-more old c.loop-t.out push.new.out (64 * (a / 64))
          (64 * ((a + 64) / 64)) (omega arith) inv.others push.ensures.others);
    }

pub spread_digits_of-word-requires-2-clause-enough :
    goal.spread_digits_of-word-requires-2-clause-enough
spread_digits_of-word-requires-2-clause-enough c =
    let mask = bits_of c.args.mask in
    let q : ℕ = c.len-total.result / 64 in
    let end : c.loop-t.t ≡ q = omega arith in
    let word = word-kept_by mask mask q (c.len-total.result % 64) refl
    (omega (arith, c.len-total.ensures)) in
    omega (
      arith,
      c.loop-t.invariant.number,
      ap (λ t. count (take (64 * t) mask)) end,
      word.room,
      c.requires.same_count,
    )

pub returns : goal.returns
returns c =
    let mask = bits_of c.args.mask in
    let values = bits_of c.args.values in
    let old = c.args.out.now in
    let o = c.args.offset in
    let q : ℕ = c.len-total.result / 64 in
    let n : ℕ = c.len-total.result % 64 in
    let end : c.loop-t.t ≡ q = omega arith in
    let total : length mask ≤ 64 * (q + 1) = omega (arith, c.len-total.ensures) in
    let a : ℕ = o + 64 * q in
    let len : ℕ = o + c.len-total.result in
    let whole : len ≡ a + n = omega arith in
    let inv = c.loop-t.invariant in
    let made = c.spread_digits_of-word-2 in
    let push = c.push_digits-pending-2 in
    let before = bits old 0 o in
    let front = spread_by (take (64 * q) mask) values in
    let number : c.loop-t.taken ≡ count (take (64 * q) mask) =
    inv.number ∙ ap (λ t. count (take (64 * t) mask)) end in
    let so_far : first_bits c.loop-t.out c.loop-t.pending a ≡ before ++ front =
    subst (λ t. first_bits c.loop-t.out c.loop-t.pending (o + 64 * t)
    ≡ before ++ spread_by (take (64 * t) mask) values) end inv.written in
    let others : Writes old c.loop-t.out 0 (bits c.loop-t.out 0 (64 * (a / 64))) =
    subst (λ t. Writes old c.loop-t.out 0 (bits c.loop-t.out 0 (64 * ((o + 64 * t) / 64)))) end
    inv.others in
    let more : digits made.result.0 0 n ≡ spread_by
    (slice_range mask (64 * q) (64 * q + n)) (drop (count (take (64 * q) mask)) values) =
    made.ensures.spread ∙ ap (λ k. spread_by (slice_range mask (64 * q) (64 * q + n))
    (drop k values)) number in
    let all : first_bits push.new.out push.result len ≡ before ++ spread_by mask values =
    ap (first_bits push.new.out push.result) whole ∙ push.ensures.written
    ∙ ap (λ l. l ++ digits made.result.0 0 n) so_far
    ∙ append_assoc before front (digits made.result.0 0 n)
    ∙ ap (λ l. before ++ (front ++ l)) more
    ∙ ap (λ l. before ++ l)
    (sym (word-spread_by mask values q n (omega (arith, c.len-total.ensures)))
    ∙ ap (λ l. spread_by l values) (take_all (64 * (q + 1)) mask total)) in
    let pushed : Writes old push.new.out 0 (bits push.new.out 0 (64 * (len / 64))) =
    subst (λ k. Writes old push.new.out 0 (bits push.new.out 0 (64 * (k / 64)))) (sym whole)
    (Writes_up_to-more old c.loop-t.out push.new.out (64 * (a / 64)) (64 * ((a + n) / 64))
    (omega arith) others push.ensures.others) in
    Writes_behind_same old c.write_pending.new.out o (spread_by mask values)
    (subst (Writes old c.write_pending.new.out 0) all
    (Writes-add old push.new.out c.write_pending.new.out 0 (64 * (len / 64))
    (bits push.new.out 0 (64 * (len / 64))) (digits push.result 0 (len % 64))
    (omega (arith, length-bits push.new.out 0 (64 * (len / 64)))) pushed c.write_pending.ensures))
