use Rattle.std.proofs.Common.{◌≡◌, ◌+◌, length, min, refl, sym, ap, ◌∙◌, subst, rules, arith}
use Rattle.std.specs.Int.{div_ceil}
use Rattle.std.proofs.lemmas.List.{length-take}
use Rattle.vb_bits.specs.Bits.{at, bits}
use Rattle.vb_bits.proofs.BitsLemmas.{length-bits}
use Rattle.vb_pack.specs.Asked.{Answers, CanAsk, span}
use Rattle.vb_bit_buffer.proofs.SetLemmas.{sets}
use Rattle.vb_bit_buffer.proofs.bit_buffer.BitBuffer.map_cmp.Goals as goal

pub map_bool_shared-requires-clause-callable : goal.map_bool_shared-requires-clause-callable
map_bool_shared-requires-clause-callable g c =
    let s = c.self.inside in let l = c.args.self.now.bits in
    let seen : l ≡ bits c.as_slice-source.result.now s.offset s.len = search rules in
    let len : length l ≡ s.len =
    ap length seen ∙ length-bits c.as_slice-source.result.now s.offset s.len in
    subst (λ l. CanAsk (λ p i. goal.F-pre g p i (at l i))
    (λ p i b q. goal.F-step g p i (at l i) b q) c.args.f.now (span 0 s.len)) seen
    (subst (λ n. CanAsk (λ p i. goal.F-pre g p i (at l i))
    (λ p i b q. goal.F-step g p i (at l i) b q) c.args.f.now (span 0 n)) len c.requires)

pub window_of-requires-clause-window : goal.window_of-requires-clause-window
window_of-requires-clause-window g c =
    let s = c.self.inside in let set = c.in_ok-clone.field-0 in
    let same : length set.bits ≡ s.len = search (rules, sets) in
    let count : c.div_ceil.result ≡ div_ceil s.len 8 = c.div_ceil.ensures in
    let whole : length c.in_ok-bytes.bytes.list ≡ div_ceil (set.offset + length set.bits) 8 =
    c.in_ok-bytes.ensures.len in
    let kept : length c.truncate.new.self.list
    ≡ min c.div_ceil.result (length c.in_ok-bytes.bytes.list) =
    ap (λ b. length b.list) c.truncate.ensures
    ∙ length-take c.div_ceil.result c.in_ok-bytes.bytes.list in
    record {
      inside = omega (arith, same, count, whole, kept, c.in_ok-answers.ensures.len);
      fits = search rules;
    }

pub returns-clause-answered : goal.returns-clause-answered
returns-clause-answered g c =
    let s = c.self.inside in
    let source = c.as_slice-source.result.now in
    let last = c.map_bool_shared.new.f in
    let seen : c.args.self.now.bits ≡ bits source s.offset s.len = search rules in
    let len : length c.args.self.now.bits ≡ s.len =
    ap length seen ∙ length-bits source s.offset s.len in
    subst (λ l. Answers (λ p i b q. goal.F-step g p i (at l i) b q) c.args.f.now
    (span 0 (length c.args.self.now.bits)) c.window_of.result.bits last) (sym seen)
    (subst (λ n. Answers (λ p i b q. goal.F-step g p i (at (bits source s.offset s.len) i) b q)
    c.args.f.now (span 0 n) c.window_of.result.bits last) (sym len)
    (subst (λ bs. Answers (λ p i b q. goal.F-step g p i (at (bits source s.offset s.len) i) b q)
    c.args.f.now (span 0 s.len) bs last)
    (sym c.window_of.ensures.bits) c.in_ok-answers.ensures.answered))

pub returns-clause-fresh : goal.returns-clause-fresh
returns-clause-fresh g c =
    let s = c.self.inside in let set = c.in_ok-clone.field-0 in
    let seen : length c.window_of.result.bits ≡ s.len = c.window_of.ensures.len in
    let same : length set.bits ≡ s.len = search (rules, sets) in
    let count : c.div_ceil.result ≡ div_ceil s.len 8 = c.div_ceil.ensures in
    let whole : length c.in_ok-bytes.bytes.list ≡ div_ceil (set.offset + length set.bits) 8 =
    c.in_ok-bytes.ensures.len in
    let kept : length c.truncate.new.self.list
    ≡ min c.div_ceil.result (length c.in_ok-bytes.bytes.list) =
    ap (λ b. length b.list) c.truncate.ensures
    ∙ length-take c.div_ceil.result c.in_ok-bytes.bytes.list in
    let all : length c.window_of.result.bytes ≡ length c.in_ok-answers.answers.list =
    ap length c.window_of.ensures.bytes in
    record {
      ok = record {
        bits = refl;
        len = refl;
        offset = search (rules, sets);
        byte_len = omega (
          arith,
          seen,
          same,
          count,
          whole,
          kept,
          all,
          c.in_ok-answers.ensures.len,
        );
      };
      refused = search rules;
    }
