-- Looks at a window, one after another.
use Rattle.std.proofs.Common.{◌≡◌, ℕ, ◌+◌, ◌<◌, ◌≤◌, ap, ◌∙◌, arith}
use Rattle.vb_count.specs.Looks.{looks}

-- equal offsets and lengths have equal looks
pub looks_same : (x y m n : ℕ) → x ≡ y → m ≡ n → looks x m ≡ looks y n
looks_same x y m n place size = ap (λ z. looks z m) place ∙ ap (looks y) size

-- at least one bit has at least one look
pub looks_some : (o n : ℕ) → 0 < n → 1 ≤ looks o n
looks_some o n some = omega arith

-- the same looks so far, and the same looks to come
pub looks_first : (was a b : ℕ) → a ≡ b → was + a ≤ was + b
looks_first was a b same = omega arith

-- one less look to come, and one more look made
pub looks_on : (was now more most a b : ℕ)
    → now + a ≤ was + most → a ≡ 1 + b → more ≡ now + 1 → more + b ≤ was + most
looks_on was now more most a b before one look = omega arith

-- one more look made, if at least one was to come
pub looks_had : (was now more most a : ℕ)
    → now + a ≤ was + most → 1 ≤ a → more ≡ now + 1 → more ≤ was + most
looks_had was now more most a before some look = omega arith

-- at most an equal number of looks
pub looks_most : (was now a b : ℕ) → now ≤ was + a → a ≡ b → now ≤ was + b
looks_most was now a b most same = omega arith
