use Rattle.std.proofs.Common.{◌≡◌, ◌+◌, ◌^◌, ◌<◌, ◌++◌, inr, length, length-append, refl, sym, ap}
use Rattle.std.proofs.Common.{◌∙◌, subst, arith}
use Rattle.std.specs.Iterator.{Yields}
use Rattle.vb_bits.specs.Bits.{bits}
use Rattle.vb_bits.specs.Digits.{digits}
use Rattle.vb_bits.proofs.BitsLemmas.{length-bits, bits_none}
use Rattle.vb_bits.proofs.DigitsLemmas.{length-digits}
use Rattle.vb_mem.proofs.Runs.{Yields-append}
use Rattle.vb_bit_bytes.proofs.iter.from_iter.Goals as goal

pub loop-len-init : goal.loop-len-init
loop-len-init g c =
    let asked = c.requires c.into_iter-rest.result c.into_iter-rest.ensures.into_iter_gives in
    record {
      can = asked.0;
      finite = asked.1;
      given = rw bits_none refl;
      whole = omega (arith, ap length c.empty-bytes.ensures.list);
      words = refl;
      alignment = c.empty-bytes.ensures.alignment;
    }

-- the last word has the item that exceeds the greatest number of bits
pub returns-then-len-count-clause-err : goal.returns-then-len-count-clause-err
returns-then-len-count-clause-err g c =
    let steps = g.I.IntoIter.Iterator.next_gives in
    let start = c.into_iter-rest.result in
    let inv = c.loop-len.invariant in
    let w = c.next_word-word.result.0 in
    let n = c.next_word-word.result.1 in
    let left = c.next_word-word.result.2 in
    let before = bits c.loop-len.bytes.list 0 c.loop-len.len in
    let full : n ≡ 64 = omega (arith, inv.words) in
    let gave = (c.next_word-word.ensures.gives.1 (length-digits w 0 n ∙ full)).0 in
    let run = Yields-append steps before (digits w 0 n) start c.loop-len.rest left inv.given gave in
    let many : length (before ++ digits w 0 n) ≡ 2 ^ 64 =
    omega (
      arith,
      inv.words,
      length-append before (digits w 0 n),
      length-bits c.loop-len.bytes.list 0 c.loop-len.len,
      length-digits w 0 n,
    ) in
    inr (
      refl,
      (start, before ++ digits w 0 n, left, c.into_iter-rest.ensures.into_iter_gives, run, many),
    )

-- the last word, and then the end of the iterator
pub returns-then-count-lt64-clause-made : goal.returns-then-count-lt64-clause-made
returns-then-count-lt64-clause-made g c =
    let steps = g.I.IntoIter.Iterator.next_gives in
    let start = c.into_iter-rest.result in
    let inv = c.loop-len.invariant in
    let w = c.next_word-word.result.0 in let n = c.next_word-word.result.1 in
    let before = bits c.loop-len.bytes.list 0 c.loop-len.len in
    let new = c.push_digits.new.bytes.list in
    let few : length (digits w 0 n) < 64 = omega (arith, length-digits w 0 n) in
    let end = c.next_word-word.ensures.gives.0 few in
    let run =
    Yields-append steps before (digits w 0 n) start c.loop-len.rest end.1.0 inv.given end.1.1 in
    let same : bits new 0 (c.loop-len.len + n) ≡ before ++ digits w 0 n =
    ap (λ k. bits new 0 (k + n)) inv.whole ∙ c.in_ok-push_digits.ensures.bits
    ∙ ap (λ k. bits c.loop-len.bytes.list 0 k ++ digits w 0 n) (sym inv.whole) in (
      start,
      before ++ digits w 0 n,
      c.into_iter-rest.ensures.into_iter_gives,
      (end.0, (end.1.0, run, end.1.2)),
      same,
    )

pub loop-len-smaller : goal.loop-len-smaller
loop-len-smaller g c =
    let w = c.next_word-word.result.0 in let n = c.next_word-word.result.1 in
    let full : n ≡ 64 = omega arith in
    (c.next_word-word.ensures.gives.1 (length-digits w 0 n ∙ full)).1.2

pub loop-len-preserved : goal.loop-len-preserved
loop-len-preserved g c =
    let steps = g.I.IntoIter.Iterator.next_gives in
    let start = c.into_iter-rest.result in
    let inv = c.loop-len.invariant in
    let w = c.next_word-word.result.0 in
    let n = c.next_word-word.result.1 in
    let left = c.next_word-word.result.2 in
    let before = bits c.loop-len.bytes.list 0 c.loop-len.len in
    let new = c.push_digits.new.bytes.list in
    let full : n ≡ 64 = omega arith in
    let gave = c.next_word-word.ensures.gives.1 (length-digits w 0 n ∙ full) in
    let run =
    Yields-append steps before (digits w 0 n) start c.loop-len.rest left inv.given gave.0 in
    let same : bits new 0 (c.loop-len.len + n) ≡ before ++ digits w 0 n =
    ap (λ k. bits new 0 (k + n)) inv.whole ∙ c.in_ok-push_digits.ensures.bits
    ∙ ap (λ k. bits c.loop-len.bytes.list 0 k ++ digits w 0 n) (sym inv.whole) in
    record {
      can = gave.1.0;
      finite = gave.1.1;
      given = subst (λ xs. Yields steps start xs left) (sym same) run;
      whole = omega (arith, inv.whole, full, c.in_ok-push_digits.ensures.len);
      words = omega (arith, inv.words, full);
      alignment = c.push_digits.ensures.alignment ∙ inv.alignment;
    }
