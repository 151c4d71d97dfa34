-- Byte offsets, and the powers of two that divide them.
use Rattle.std.proofs.Common.{◌≡◌, ℕ, ◌+◌, ◌-◌, ◌*◌, ◌%◌, ◌^◌, ◌≤◌, ◌<◌, sym, ap, ◌∙◌, arith}
use Rattle.std.proofs.Math.Nat.{dvd-add, dvd-mul_left_of_dvd}
use Rattle.std.proofs.lemmas.Nat.{mul-mod_first}
use Rattle.std.proofs.lemmas.Nat.Gcd.{dvd-zero, dvd_of_mod-eq-zero, mod-eq-zero_of_dvd}
use Rattle.std.proofs.Math.Pow.{mod-mod-pow}

-- n and its remainder by a power of two have the same remainder by a lesser power of two
pub mod-mod-lesser : (n j k : ℕ) → k ≤ j → n % 2 ^ j % 2 ^ k ≡ n % 2 ^ k
mod-mod-lesser n j k h =
    let e : (j - k) + k ≡ j = omega arith in
    ap (λ m. n % 2 ^ m % 2 ^ k) (sym e) ∙ mod-mod-pow n (j - k) k

-- a sum and a product that wrap at 64 bits keep the remainder
pub mod-wrapped : (n size k : ℕ) → k < 64 → n % 2 ^ 64 * size % 2 ^ 64 % 2 ^ k ≡ n * size % 2 ^ k
mod-wrapped n size k h =
    ap (λ m. m % 2 ^ k) (mul-mod_first n size (2 ^ 64))
    ∙ mod-mod-lesser (n * size) 64 k (omega arith)

-- if 2 ^ reported divides a byte offset and 2 ^ least divides the size of an item, then 2 ^ least
-- divides the byte offset `start` items later
pub mod-items_on : (place start size reported least : ℕ) → least ≤ reported
    → place % 2 ^ reported ≡ 0 → size % 2 ^ least ≡ 0 → (place + start * size) % 2 ^ least ≡ 0
mod-items_on place start size reported least le at whole =
    let here : place % 2 ^ least ≡ 0 =
    sym (mod-mod-lesser place reported least le) ∙ ap (λ m. m % 2 ^ least) at
    ∙ mod-eq-zero_of_dvd (2 ^ least) (dvd-zero (2 ^ least)) in
    mod-eq-zero_of_dvd (2 ^ least)
    (dvd-add (2 ^ least) (dvd_of_mod-eq-zero (2 ^ least) here)
    (dvd-mul_left_of_dvd (2 ^ least) (dvd_of_mod-eq-zero (2 ^ least) whole) start))
