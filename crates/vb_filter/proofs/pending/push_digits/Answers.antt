use Rattle.std.proofs.Common.{◌≡◌, ℕ, ◌+◌, ◌-◌, ◌*◌, ◌/◌, ◌%◌, ◌^◌, ◌<◌, refl, inr, sym, ap}
use Rattle.std.proofs.Common.{subst, ◌∙◌, arith}
use Rattle.std.proofs.lemmas.Nat.{shr-shr}
use Rattle.vb_bits.specs.Digits.{digits}
use Rattle.vb_bits.specs.Writes.{Writes}
use Rattle.vb_bits.proofs.DigitsLemmas.{length-digits}
use Rattle.vb_filter.specs.Pending.{first_bits}
use Rattle.vb_filter.proofs.PendingLemmas.{joined, joined-lt, first_bits-in_word}
use Rattle.vb_filter.proofs.PendingLemmas.{first_bits-past_word}
use Rattle.vb_filter.proofs.PendingLemmas.{rest-lt, Writes_up_to}
use Rattle.vb_filter.proofs.pending.push_digits.Goals as goal

pub returns-then-shift-n-lt64-clause-written : goal.returns-then-shift-n-lt64-clause-written
returns-then-shift-n-lt64-clause-written c =
    first_bits-in_word c.args.out.now c.args.pending c.args.word c.args.len c.args.n
    c.requires.pending c.if-shift-n-lt64.true

pub returns-then-shift-n-lt64-clause-clear : goal.returns-then-shift-n-lt64-clause-clear
returns-then-shift-n-lt64-clause-clear c =
    let s = c.args.len % 64 in
    let place : s + c.args.n ≡ (c.args.len + c.args.n) % 64 = omega arith in
    subst (λ k. joined c.args.pending c.args.word s < 2 ^ k) place
    (joined-lt c.args.pending c.args.word s c.requires.pending c.args.n c.requires.clear
    (omega arith))

pub returns-then-shift-n-lt64-clause-others : goal.returns-then-shift-n-lt64-clause-others
returns-then-shift-n-lt64-clause-others c =
    Writes_up_to c.args.out.now c.args.out.now (64 * ((c.args.len + c.args.n) / 64)) refl
    (λ i h. refl)

-- the result, as one shift
rest_is : (w s : ℕ) → s < 64 → w / 2 / 2 ^ (63 - s) ≡ w / 2 ^ (64 - s)
rest_is w s inside =
    let one : 1 + (63 - s) ≡ 64 - s = omega arith in
    shr-shr w 1 (63 - s) ∙ ap (λ k. w / 2 ^ k) one

pub returns-clause-written : goal.returns-clause-written
returns-clause-written c =
    let s = c.args.len % 64 in
    let place : 8 * (8 * (c.args.len / 64)) ≡ 64 * (c.args.len / 64) = omega arith in
    let write = subst (λ k. Writes c.args.out.now c.write_word.new.bytes k
    (digits (joined c.args.pending c.args.word s) 0 64)) place c.write_word.ensures in
    ap (λ r. first_bits c.write_word.new.bytes r (c.args.len + c.args.n))
    (rest_is c.args.word s (omega arith))
    ∙ first_bits-past_word c.args.out.now c.write_word.new.bytes c.args.pending c.args.word
    c.args.len c.args.n c.requires.pending c.if-shift-n-lt64.false c.requires.few write

pub returns-clause-clear : goal.returns-clause-clear
returns-clause-clear c =
    let s = c.args.len % 64 in
    let place : s + c.args.n - 64 ≡ (c.args.len + c.args.n) % 64 = omega arith in
    subst (λ k. c.args.word / 2 / 2 ^ (63 - s) < 2 ^ k) place
    (subst (λ r. r < 2 ^ (s + c.args.n - 64)) (sym (rest_is c.args.word s (omega arith)))
    (rest-lt c.args.word s c.args.n c.requires.clear (omega arith) c.if-shift-n-lt64.false))

pub returns-clause-others : goal.returns-clause-others
returns-clause-others c =
    let x = joined c.args.pending c.args.word (c.args.len % 64) in
    Writes_up_to c.args.out.now c.write_word.new.bytes (64 * ((c.args.len + c.args.n) / 64))
    c.write_word.ensures.same_len
    (λ i h. c.write_word.ensures.others i (inr (omega (arith, length-digits x 0 64))))
