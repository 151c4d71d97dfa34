use Rattle.std.proofs.Common.{◌≡◌, ℕ, ◌+◌, ◌-◌, ◌≤◌, take, drop, sym, ap, ◌∙◌, arith}
use Rattle.std.specs.Prelude.{count_ones, slice_range}
use Rattle.std.proofs.lemmas.Nat.{ones_le_self}
use Rattle.vb_bits.specs.Bits.{count}
use Rattle.vb_bits.specs.Digits.{digits}
use Rattle.vb_bits.proofs.BitsLemmas.{count-le}
use Rattle.vb_bits.proofs.DigitsLemmas.{length-digits}
use Rattle.vb_view.specs.View.{bits_of}
use Rattle.vb_filter.specs.Spread.{spread_by}
use Rattle.vb_filter.proofs.FilteredBits.{ones-of}
use Rattle.vb_filter.proofs.SpreadDigits.{front, spread-narrow, spread-lt, zero_digits}
use Rattle.vb_filter.proofs.SpreadLemmas.{spread_by-take, spread_none}
use Rattle.vb_filter.proofs.deposit.spread_digits_of.Goals as goal

pub returns-then-places-eq0-clause-count : goal.returns-then-places-eq0-clause-count
returns-then-places-eq0-clause-count c =
    let places : ℕ = c.view_word-places.result in
    omega (
      arith,
      ones-of (bits_of c.args.mask) places c.args.start c.args.n c.view_word-places.ensures.clear
          c.view_word-places.ensures.digits,
      ones_le_self places,
      c.if-places-eq0.true,
    )

pub returns-then-places-eq0-clause-spread : goal.returns-then-places-eq0-clause-spread
returns-then-places-eq0-clause-spread c =
    let n = c.args.n in
    let values = drop c.args.taken (bits_of c.args.values) in
    let none = ap (λ w. digits w 0 n) c.if-places-eq0.true ∙ zero_digits n in
    zero_digits n ∙ sym (spread_none n values)
    ∙ ap (λ l. spread_by l values) (sym none ∙ c.view_word-places.ensures.digits)

pub word_from-requires-clause-inside : goal.word_from-requires-clause-inside
word_from-requires-clause-inside c =
    omega (
      arith,
      ones-of (bits_of c.args.mask) c.view_word-places.result c.args.start c.args.n
          c.view_word-places.ensures.clear c.view_word-places.ensures.digits,
      c.requires.enough,
    )

pub returns-clause-count : goal.returns-clause-count
returns-clause-count c =
    sym (ones-of (bits_of c.args.mask) c.view_word-places.result c.args.start c.args.n
    c.view_word-places.ensures.clear c.view_word-places.ensures.digits)

pub returns-clause-spread : goal.returns-clause-spread
returns-clause-spread c =
    let n = c.args.n in
    let taken = c.args.taken in
    let places : ℕ = c.view_word-places.result in
    let word : ℕ = c.word_from.result in
    let k : ℕ = count_ones places in
    let mask = slice_range (bits_of c.args.mask) c.args.start (c.args.start + n) in
    let values = bits_of c.args.values in
    let of_mask = c.view_word-places.ensures.digits in
    let ones : count mask ≡ k = ones-of (bits_of c.args.mask) places c.args.start n
    c.view_word-places.ensures.clear of_mask in
    let few : k ≤ 64 = omega (
      arith,
      ones,
      ap count of_mask,
      count-le (digits places 0 n),
      length-digits places 0 n,
      c.requires.few,
    ) in
    let len : taken + k - taken ≡ k = omega arith in
    let same : take k (digits word 0 64) ≡ take k (drop taken values) =
    front word k 64 few ∙ c.word_from.ensures
    ∙ ap (λ m. take m (drop taken values)) len in
    spread-narrow c.spread_digits.result places word n c.spread_digits.ensures c.requires.few
    ∙ ap (λ m. spread_by m (digits word 0 64)) of_mask
    ∙ sym (spread_by-take mask (digits word 0 64) k (omega (arith, ones)))
    ∙ ap (spread_by mask) same
    ∙ spread_by-take mask (drop taken values) k (omega (arith, ones))

pub returns-clause-clear : goal.returns-clause-clear
returns-clause-clear c =
    spread-lt c.spread_digits.result c.view_word-places.result c.word_from.result c.args.n
    c.spread_digits.ensures c.requires.few (omega arith) c.view_word-places.ensures.clear
