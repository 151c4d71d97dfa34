-- Powers of two: their set bit, and divisibility.
use Rattle.std.proofs.Common.{◌≡◌, ℕ, ◌+◌, ◌-◌, ◌*◌, ◌^◌, ◌<◌, ◌≤◌, ◌%◌, IsTrue, count_ones, sym}
use Rattle.std.proofs.Common.{ap, subst, ◌∙◌, inl, inr, arith, rules}
use Rattle.std.proofs.Math.Nat.{mod-eq_of_lt, mod_self}
use Rattle.std.proofs.Math.Pow.{mod-mod-pow, pow-lt}
use Rattle.std.proofs.lemmas.Nat.{pow_pos, zero_from_ones}
use Rattle.std.specs.Int.{is_power_of_two}
use Rattle.std.specs.Int.Count.{ones, ones_cat}
use Rattle.vb_core.specs.Alignments.{IsPower, halvings}

-- a set bit above k others adds 1 to the count
count_ones-above : (k rest : ℕ) → rest < 2 ^ k → count_ones (2 ^ k + rest) ≡ 1 + count_ones rest
unfolding ones
count_ones-above k rest below =
    ap (λ (n : ℕ). count_ones (n + rest)) (omega arith) ∙ ones_cat k 1 rest below

-- a power of two equals the worth of its highest set bit
pub pow-highest : (n k : ℕ) → IsTrue (is_power_of_two n) → 2 ^ k ≤ n → n < 2 * 2 ^ k → 2 ^ k ≡ n
pow-highest n k power lower upper =
    let rest_below : n - 2 ^ k < 2 ^ k = omega arith in
    let whole : 2 ^ k + (n - 2 ^ k) ≡ n = omega arith in
    let digits : count_ones n ≡ 1 + count_ones (n - 2 ^ k) =
    ap count_ones (sym whole) ∙ count_ones-above k (n - 2 ^ k) rest_below in
    let one : count_ones n ≡ 1 = search rules in
    let rest : n - 2 ^ k ≡ 0 = zero_from_ones (n - 2 ^ k) (omega arith) in
    omega arith

-- a power of two has one set bit
pub is_power_of_two-pow : (k : ℕ) → IsTrue (is_power_of_two (2 ^ k))
unfolding ones
is_power_of_two-pow k =
    let digits : count_ones (2 ^ k) ≡ 1 =
    ap count_ones (omega arith) ∙ count_ones-above k 0 (pow_pos k) in
    search rules

-- a power of two, shown either way, has one set bit
pub is_power_of_two-IsPower : (n : ℕ) → IsPower n → IsTrue (is_power_of_two n)
is_power_of_two-IsPower n power = elim power [
  | inl one_digit ↦ one_digit
  | inr halved ↦
      subst (λ n. IsTrue (is_power_of_two n)) halved (is_power_of_two-pow (halvings 64 n))
]

-- a power of two is a multiple of each smaller one
pub pow-mod-pow : (n k : ℕ) → k ≤ n → 2 ^ n % 2 ^ k ≡ 0
pow-mod-pow n k below =
    let sum : (n - k) + k ≡ n = omega arith in
    subst (λ (m : ℕ). 2 ^ m % 2 ^ k ≡ 0) sum (sym (mod-mod-pow (2 ^ ((n - k) + k)) (n - k) k)
    ∙ ap (λ (m : ℕ). m % 2 ^ k) (mod_self (2 ^ ((n - k) + k))) ∙ mod-eq_of_lt (pow_pos k))

-- a power of two isn't a multiple of a greater one
pub pow-mod_greater : (n k : ℕ) → n < k → 0 < 2 ^ n % 2 ^ k
pow-mod_greater n k below = rw (mod-eq_of_lt (pow-lt below)) (pow_pos n)

-- equal powers of two have equal exponents
pub pow-injective : (n k : ℕ) → 2 ^ n ≡ 2 ^ k → n ≡ k
pow-injective n k same = grind (arith, pow-lt)
