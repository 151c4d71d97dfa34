use Rattle.std.proofs.Common.{rules, ◌≡◌, ℕ, List, ◌-◌, ◌≤◌, take, Result, Ok, Err, OnOk, OnErr}
use Rattle.std.proofs.Common.{sym, ap, ◌∙◌, arith, subst}
use Rattle.vb_bits.specs.Bits.{bits}
use Rattle.vb_bits.specs.Digits.{digits}
use Rattle.vb_bits.proofs.BitsLemmas.{take-bits}
use Rattle.vb_bits.proofs.BytesLemmas.{bits-to_le_bytes}
use Rattle.vb_set.specs.OpenSet.{AddsBits}
use Rattle.vb_set.proofs.bit_buffer_mut.BitBufferMut.append_word.Goals as goal

-- a proposition that holds also holds if the result is an error
of_err : {B E : Type 0} (r : Result B E) (P : Type 0) → P → OnErr r P
of_err (Ok _) P p = tt
of_err (Err _) P p = p

pub returns-else-is_err-clause-ok : goal.returns-else-is_err-clause-ok
returns-else-is_err-clause-ok g c =
    let word : bits c.to_le_bytes-bytes.result 0 c.args.count ≡ digits c.args.word 0 c.args.count =
    ap (λ b. bits b 0 c.args.count) c.to_le_bytes-bytes.ensures
    ∙ bits-to_le_bytes c.args.word 0 c.args.count (omega arith) in
    subst
    (λ l. OnOk c.append_bits-answer.result
    (AddsBits l c.args.self.now c.append_bits-answer.new.self)) word
    c.append_bits-answer.ensures.ok

pub returns-in_ok-append_bits-clause-err : goal.returns-in_ok-append_bits-clause-err
returns-in_ok-append_bits-clause-err g c =
    let b : List ℕ = c.to_le_bytes-bytes.result in
    let n : ℕ = c.capacity-then-is_err.result - c.len.result in
    let word : bits b 0 c.args.count ≡ digits c.args.word 0 c.args.count =
    ap (λ x. bits x 0 c.args.count) c.to_le_bytes-bytes.ensures
    ∙ bits-to_le_bytes c.args.word 0 c.args.count (omega arith) in
    let kept : c.append_bits-answer.new.self ≡ c.args.self.now = search rules in
    let few : n ≤ c.args.count = search rules in
    let front : bits b 0 n ≡ take n (digits c.args.word 0 c.args.count) =
    sym (take-bits b 0 c.args.count n few) ∙ ap (take n) word in
    of_err c.append_bits-answer.result _ (
      n,
      subst (λ s. AddsBits (take n (digits c.args.word 0 c.args.count)) s c.append_bits.new.self)
          kept
          (subst (λ l. AddsBits l c.append_bits-answer.new.self c.append_bits.new.self) front
          c.in_ok-append_bits.ensures.ok),
    )
