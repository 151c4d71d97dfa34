use Rattle.std.proofs.Common.{◌≡◌, ℕ, ◌+◌, ◌%◌, ◌^◌, ◌<◌, List, Bool, Option, length, get_or, ap}
use Rattle.std.proofs.Common.{◌∙◌}
use Rattle.std.specs.List.{fold, zip}
use Rattle.std.specs.Option.{option_map}
use Rattle.vb_view.specs.View.{bits_of}
use Rattle.vb_group.specs.Groups.{AddsRows, selected, codes_of, values_of}
use Rattle.vb_group.proofs.CountsLemmas.{selected_twice, values-codes, counted, if_ok}
use Rattle.vb_group.proofs.group.group_counts.Goals as goal

pub returns-clause-counted : goal.returns-clause-counted
returns-clause-counted g c =
    let number = g.C.BitIndex.number in
    let codes = c.args.codes.now in
    let start = c.args.counts.now in
    let new = c.add_or_undo.new.totals in
    let mask : Option (List Bool) = option_map bits_of c.args.mask in
    let plus = λ (count : ℕ) (_ : g.row.C.Denot). (count + 1) % 2 ^ 64 in
    if_ok (AddsRows number plus start new (selected mask (zip codes codes)))
    ((i : ℕ) → i < length start → get_or new i 0 % 2 ^ 64
    ≡ (get_or start i 0 + length (codes_of number i (selected mask codes))) % 2 ^ 64)
    c.add_or_undo.result (λ added i inside.
    let old = get_or start i 0 in
    let same = ap (values_of number i) (selected_twice mask codes)
    ∙ values-codes number i (selected mask codes) in
    ap (λ n. n % 2 ^ 64) (added.each i 0 inside ∙ ap (fold plus old) same)
    ∙ counted old (codes_of number i (selected mask codes))) c.add_or_undo.ensures.added
