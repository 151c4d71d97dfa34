use Rattle.std.proofs.Common.{arith, ◌≡◌, ℕ, ◌-◌, ◌*◌, ◌/◌, ◌%◌, ◌++◌, length, map, take, drop}
use Rattle.std.proofs.Common.{replicate, false, subst, sym, ap, ◌∙◌}
use Rattle.std.proofs.lemmas.List.{length-map, length-take-le, append_assoc, append-nil}
use Rattle.std.proofs.lemmas.List.{take-append-drop, take_all, take-take}
use Rattle.vb_bits.proofs.DigitsLemmas.{length-digits}
use Rattle.vb_pack.proofs.TruthLemmas.{Writes-over}
use Rattle.vb_pack.specs.Digits.{digits}
use Rattle.vb_pack.specs.WordBits.{filled_to}
use Rattle.vb_pack.specs.Writes.{Writes}
use Rattle.vb_pack.proofs.WordsLemmas.{digits_above}
use Rattle.vb_pack.proofs.truths.pack_values.Goals as goal

pub returns-then-len-lt64 : goal.returns-then-len-lt64
returns-then-len-lt64 g c =
    let l = c.args.values.now in let t = g.T.Truth.truth in let m = map t l in
    let n : ℕ = length l in let w = c.few_word.result in let up : ℕ = c.div_ceil.result in
    let filled : 8 * up - n ≡ (8 - length m % 8) % 8 = omega (arith, length-map l t) in
    subst (Writes c.args.bytes.now c.write_front.new.bytes 0)
    (digits_above w n (8 * up) c.few_word.ensures.clear (omega arith)
    ∙ ap (λ x. x ++ replicate (8 * up - n) false) c.few_word.ensures.digits
    ∙ ap (λ k. m ++ replicate k false) filled) c.write_front.ensures

pub returns-then-len-ne0 : goal.returns-then-len-ne0
returns-then-len-ne0 g c =
    let l = c.args.values.now in let t = g.T.Truth.truth in let m = map t l in
    let n : ℕ = length l in let q : ℕ = 64 * (n / 64) in
    let end : ℕ = c.div_ceil-then-len-ne0.result in let p : ℕ = 8 * (end - 8) in
    let r : ℕ = 64 - (8 - n % 8) % 8 in
    let w = c.last_word-last.result in
    let b = c.pack_words.new.bytes in let d = c.write_front-then-len-ne0.new.bytes in
    let size : length m ≡ n = length-map l t in
    let long : length (take q m) ≡ q = length-take-le q m (omega (arith, size)) in
    let place : n - r ≡ p = omega arith in
    let zeros = replicate (64 - r) false in
    let last : digits w 0 64 ≡ drop p m ++ zeros =
    digits_above w r 64 c.last_word-last.ensures.clear (omega arith)
    ∙ ap (λ x. x ++ zeros) (c.last_word-last.ensures.digits ∙ ap (λ k. drop k m) place) in
    let filled : 64 - r ≡ (8 - length m % 8) % 8 = omega (arith, size) in
    let whole : take p (take q m) ++ digits w 0 64 ≡ filled_to 8 m =
    ap (λ x. x ++ digits w 0 64) (take-take p q m (omega arith))
    ∙ ap (λ x. take p m ++ x) last ∙ sym (append_assoc (take p m) (drop p m) zeros)
    ∙ ap (λ x. x ++ zeros) (take-append-drop p m) ∙ ap (λ k. m ++ replicate k false) filled in
    subst (Writes c.args.bytes.now d 0) whole
    (Writes-over c.args.bytes.now b d p (take q m) (digits w 0 64) (omega (arith, long))
    (omega (arith, long, length-digits w 0 64)) c.pack_words.ensures
    c.write_front-then-len-ne0.ensures)

pub returns-else-len-ne0 : goal.returns-else-len-ne0
returns-else-len-ne0 g c =
    let l = c.args.values.now in let t = g.T.Truth.truth in let m = map t l in
    let size : length m ≡ length l = length-map l t in
    let none : 0 ≡ (8 - length m % 8) % 8 = omega (arith, size) in
    subst (Writes c.args.bytes.now c.pack_words.new.bytes 0)
    (take_all (64 * (length l / 64)) m (omega (arith, size)) ∙ sym (append-nil m)
    ∙ ap (λ k. m ++ replicate k false) none) c.pack_words.ensures
