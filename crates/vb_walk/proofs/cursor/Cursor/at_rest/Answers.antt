use Rattle.std.proofs.Common.{◌≡◌, ◌+◌, ◌-◌, ◌*◌, ◌^◌, ◌<◌, ◌∙◌, ap, subst, sym, arith}
use Rattle.vb_bits.specs.Bits.{bit_of}
use Rattle.vb_bits.proofs.ReadLemmas.{has_bit-bits}
use Rattle.vb_walk.proofs.cursor.Cursor.at_rest.Goals as goal

pub returns : goal.returns
returns c =
    let b = c.args.bytes.now in
    let s = c.args.self in
    let v = c.requires.valid in
    let w = c.read_rest.result in
    let here = v.here c.requires.more in
    let size : 8 * s.end - s.offset + s.left - (8 * s.end - s.offset) ≡ s.left = omega arith in
    record {
      valid = record {
        room = omega (arith, v.room);
        fits = omega (arith, v.fits);
        walked = omega arith;
        near = omega (arith, v.short);
        clear = subst (λ k. w < 2 ^ k) (sym size) c.read_rest.ensures.clear;
        order = omega arith;
        inside = v.inside;
        whole = omega arith;
        short = omega arith;
        here = λ some. absurd (omega arith);
      };
      offset = cc;
      ends = omega (arith, v.order);
      base = omega arith;
      read = λ i lo hi.
          let place : 8 * s.end + (i - (8 * s.end - s.offset)) ≡ s.offset + i =
          omega (arith, v.order) in
          has_bit-bits b w (8 * s.end) s.left (i - (8 * s.end - s.offset))
          c.read_rest.ensures.digits (omega (arith, v.order)) ∙ ap (bit_of b) place;
      last = omega arith;
      short = omega (arith, v.short);
    }
