use Rattle.std.proofs.Common.{◌≡◌, ℕ, List, [], ◌∷◌, take, get_or, ap, sym, ◌∙◌, w8}
use Rattle.std.specs.Prelude.{count_ones, slice_range}
use Rattle.std.proofs.lemmas.Simd.{swz_l}
use Rattle.vb_bits.specs.Bits.{count}
use Rattle.vb_bits.specs.Digits.{digits}
use Rattle.vb_bits.specs.Kept.{kept_by}
use Rattle.vb_bits.proofs.DigitsLemmas.{count-digits_below}
use Rattle.vb_filter.specs.declared.filter_elements.TheConstants.{KEPT_BYTES}
use Rattle.vb_filter.proofs.ElementsLemmas.{keeps_four}
use Rattle.vb_filter.proofs.filter_elements.keep_four.Goals as goal

pub returns : goal.returns
returns g c =
    let e = g.T.Element in
    let laws = g.met.T.Element.lawful in
    let four = c.args.four in
    let keep = c.args.keep in
    let known = c.bytes_of_four.ensures in
    let value = e.value_of in
    let same = keeps_four _ value (e.form four.0) (e.form four.1) (e.form four.2) (e.form four.3)
    keep c.requires.clear (laws.form_has_size four.0 known.first ∙ c.requires.size)
    (laws.form_has_size four.1 known.second ∙ c.requires.size)
    (laws.form_has_size four.2 known.third ∙ c.requires.size)
    (laws.form_has_size four.3 known.fourth ∙ c.requires.size) in
    let first = c.get.ensures.value in
    let second = c.get-2.ensures.value in
    let third = c.get-3.ensures.value in
    let fourth = c.get-4.ensures.value in
    let a = laws.get_after_put four.0 known.first in
    let b = laws.get_after_put four.1 known.second in
    let d = laws.get_after_put four.2 known.third in
    let f = laws.get_after_put four.3 known.fourth in
    let swizzled : List ℕ → List ℕ = λ b. swz_l w8 16 b 0 (get_or KEPT_BYTES keep []) in
    let items : List ℕ → List _ = λ l. value (slice_range l 0 4) ∷ value (slice_range l 4 8)
    ∷ value (slice_range l 8 12) ∷ value (slice_range l 12 16) ∷ [] in
    let many : count_ones keep ≡ count (digits keep 0 4) =
    sym (count-digits_below keep 4 c.requires.clear) in
    let got : c.get.result ∷ c.get-2.result ∷ c.get-3.result ∷ c.get-4.result ∷ []
    ≡ items (swizzled c.bytes_of_four.result) =
    λ i. first i ∷ second i ∷ third i ∷ fourth i ∷ [] in
    ap (λ n. take n (c.get.result ∷ c.get-2.result ∷ c.get-3.result ∷ c.get-4.result ∷ [])) many
    ∙ ap (take (count (digits keep 0 4))) (got ∙ ap (λ b. items (swizzled b)) known.bytes)
    ∙ same ∙ ap (kept_by (digits keep 0 4)) (λ i. a i ∷ b i ∷ d i ∷ f i ∷ [])
