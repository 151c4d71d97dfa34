use Rattle.std.proofs.Common.{◌≡◌, ℕ, Bool, List, ◌+◌, ◌-◌, ◌*◌, ◌≤◌, Some, ap, arith}
use Rattle.std.proofs.Common.{sym, ◌∙◌, subst, zero-add, ⊎_elim}
use Rattle.std.proofs.lemmas.Bool.{cases_lt}
use Rattle.vb_bits.specs.Bits.{bits, count, Selects}
use Rattle.vb_count.specs.Hits.{hits}
use Rattle.vb_count.proofs.HitsLemmas.{count-hits-bits_split}
use Rattle.vb_select.proofs.SearchesLemmas.{Searched_after, Searched_longer, Searched_inside}
use Rattle.vb_rank.proofs.select.select_by_moves.Goals as goal
use Rattle.vb_rank.proofs.select.select_by_moves.Goals.{After-select_in_word}

-- the bit that is found in the word is the one of the chunk
found : (c : After-select_in_word) → Selects (hits c.args.value (bits c.args.chunk.now 0 512))
    c.args.n (Some (64 * c.find_word-k.result.0 + c.select_in_word.result))
found c =
    let v : Bool = c.args.value in let b : List ℕ = c.args.chunk.now in
    let k : ℕ = c.find_word-k.result.0 in let p : ℕ = c.select_in_word.result in
    let left : ℕ = c.args.n - c.find_word-k.result.1 in
    Searched_longer v b 0 (64 * k + 64) 512 c.args.n (64 * k + p)
    (omega (arith, c.find_word-k.ensures.within))
    (Searched_after v b 0 (64 * k) 64 c.args.n left p
    (omega (arith, c.find_word-k.ensures.low, c.find_word-k.ensures.before))
    (subst (λ l. Selects l left (Some p)) (c.find_word-k.ensures.word
    ∙ ap (λ o. hits v (bits b o 64)) (sym (zero-add (64 * k)))) c.select_in_word.ensures))

pub overflow_add-result : goal.overflow_add-result
overflow_add-result c =
    record {
      fits = omega (arith, Searched_inside c.args.value c.args.chunk.now 0 512 _ _ (found c));
    }

pub returns-then-left-digit_ones : goal.returns-then-left-digit_ones
returns-then-left-digit_ones c = found c

pub returns-else-left-digit_ones : goal.returns-else-left-digit_ones
returns-else-left-digit_ones c =
    let v : Bool = c.args.value in let b : List ℕ = c.args.chunk.now in
    let k : ℕ = c.find_word-k.result.0 in
    let more = count-hits-bits_split v b 0 (64 * k) (64 * (k + 1)) (64 * k) 64 (omega arith)
    (omega arith) in
    let upto : count (hits v (bits b 0 (64 * (k + 1)))) ≤ c.args.n = omega (
      arith,
      more,
      ap count c.find_word-k.ensures.word,
      c.digit_ones.ensures.value,
      c.if-left-digit_ones.false,
      c.find_word-k.ensures.low,
      c.find_word-k.ensures.before,
    ) in
    ⊎_elim (λ less. absurd (omega (arith, upto, c.find_word-k.ensures.high less)))
    (λ (past : 7 ≤ k).
    let last : 64 * (k + 1) ≡ 512 = omega (arith, past, c.find_word-k.ensures.within) in
    omega (arith, upto, ap (λ x. count (hits v (bits b 0 x))) last))
    (cases_lt k 7)
