use Rattle.std.proofs.Common.{◌≡◌, ℕ, ◌+◌, ◌*◌, ◌/◌, ◌%◌, map, take, drop, refl, sym, ap, subst}
use Rattle.std.proofs.Common.{◌∙◌, arith}
use Rattle.std.specs.Int.{from_bool}
use Rattle.vb_bits.specs.Bits.{bits}
use Rattle.vb_bits.proofs.BitsLemmas.{bits_none}
use Rattle.vb_expand.proofs.UnpackLemmas.{word_front, word_after, unpacked_all}
use Rattle.vb_expand.proofs.unpack.unpack_bytes.Goals as goal

pub loop-t-init : goal.loop-t-init
loop-t-init c = record {
  front = ap (map from_bool) (sym (bits_none c.args.bytes.now c.args.offset));
  after = refl;
}

pub loop-t-preserved : goal.loop-t-preserved
loop-t-preserved c =
    let b = c.args.bytes.now in
    let o : ℕ = c.args.offset in
    let t : ℕ = c.loop-t.t in
    let w : ℕ = c.full_word-word.result in
    let ys = c.unpack_word.new.out in
    let inv = c.loop-t.invariant in
    let place : 8 * ((o + 64 * t) / 8) + (o + 64 * t) % 8 ≡ o + 64 * t = omega arith in
    record {
      front = word_front c.loop-t.out ys b o t w
          (omega (arith, c.loop-t.auto.out, c.requires.room)) c.unpack_word.ensures
          (c.full_word-word.ensures ∙ ap (λ i. bits b i 64) place) inv.front;
      after = word_after c.loop-t.out ys b o t w
          (omega (arith, c.loop-t.auto.out, c.requires.room)) c.unpack_word.ensures
          c.args.out.now inv.after;
    }

pub returns : goal.returns
returns c =
    let b = c.args.bytes.now in
    let o : ℕ = c.args.offset in
    let out = c.loop-t.out in
    let old = c.args.out.now in
    let last = c.unpack_word-2.new.out in
    let inv = c.loop-t.invariant in
    let end : c.loop-t.t ≡ c.args.len / 64 = omega arith in
    unpacked_all out c.copy_from_slice.new.self b old last o c.args.len c.read_bits.result
    (omega (arith, c.loop-t.auto.out, c.requires.room))
    (subst (λ t. take (64 * t) out ≡ map from_bool (bits b o (64 * t))) end inv.front)
    (subst (λ t. drop (64 * t) out ≡ drop (64 * t) old) end inv.after)
    c.unpack_word-2.ensures c.read_bits.ensures.digits
    (c.copy_from_slice.ensures.after ∙ ap (λ k. take k last) (omega arith))
