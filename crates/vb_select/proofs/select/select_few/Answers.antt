use Rattle.std.proofs.Common.{ℕ, ◌+◌, ◌<◌, ◌≤◌, sym, ap, subst, ◌∙◌, arith, get_or, zero-add}
use Rattle.std.specs.Prelude.{Some, None}
use Rattle.vb_bits.specs.Bits.{bits, count, places, Selects}
use Rattle.vb_bits.specs.Digits.{digits}
use Rattle.vb_bits.proofs.BitsLemmas.{Selects-InvertsCount}
use Rattle.vb_bits.proofs.DigitsLemmas.{count-digits_below, count-digits_none}
use Rattle.vb_bits.proofs.SelectsLemmas.{Selects-digits, Selects-places}
use Rattle.vb_count.specs.Hits.{hits}
use Rattle.vb_select.proofs.select.select_few.Goals as goal

-- a digit that is selected is one of the k lowest, if these have enough ones
among_lowest : (w k n p : ℕ) → k ≤ 64 → n < count (digits w 0 k)
    → Selects (digits w 0 64) n (Some p) → Selects (digits w 0 k) n (Some p)
among_lowest w k n p few here found =
    let q : ℕ = get_or (places (digits w 0 k)) n 0 in
    let low = Selects-places (digits w 0 k) n here in
    let high = Selects-digits w 64 0 k n n q (omega arith)
    (omega (arith, count-digits_none w 0)) low in
    let same = Selects-InvertsCount (digits w 0 64) n (Some p) found (0 + q) high.0 high.1
    high.2 in
    subst (Selects (digits w 0 k) n) (sym (same ∙ ap Some (zero-add q))) low

pub select_in_word-requires : goal.select_in_word-requires
select_in_word-requires c =
    let w = c.read_matches-word in
    omega (arith, c.if-n-word.true, count-digits_below w.result 64 w.type_inv)

pub returns-then-n-word-clause-place : goal.returns-then-n-word-clause-place
returns-then-n-word-clause-place c =
    let w = c.read_matches-word in
    let n = c.args.n in
    let here : n < count (digits w.result 0 c.args.len) = omega (
      arith,
      c.if-n-word.true,
      count-digits_below w.result c.args.len w.ensures.clear,
    ) in
    subst (λ l. Selects l n (Some c.select_in_word.result)) w.ensures.digits
    (among_lowest w.result c.args.len n c.select_in_word.result c.requires.few here
    c.select_in_word.ensures)

pub returns-then-n-word-clause-each : goal.returns-then-n-word-clause-each
returns-then-n-word-clause-each c =
    Selects-InvertsCount (hits c.args.value (bits c.args.bytes.now c.args.offset c.args.len))
    c.args.n (Some c.select_in_word.result) (returns-then-n-word-clause-place c)

pub returns-else-n-word-clause-place : goal.returns-else-n-word-clause-place
returns-else-n-word-clause-place c =
    let w = c.read_matches-word in
    omega (
      arith,
      c.if-n-word.false,
      count-digits_below w.result c.args.len w.ensures.clear,
      ap count w.ensures.digits,
    )

pub returns-else-n-word-clause-each : goal.returns-else-n-word-clause-each
returns-else-n-word-clause-each c =
    Selects-InvertsCount (hits c.args.value (bits c.args.bytes.now c.args.offset c.args.len))
    c.args.n None (returns-else-n-word-clause-place c)
