use Rattle.std.proofs.Common.{◌≡◌, Bool, false, List, Option, length, take, sym, ap, subst}
use Rattle.std.proofs.Common.{◌∙◌, arith}
use Rattle.std.specs.List.{zip}
use Rattle.std.specs.Option.{ForSome, option_map}
use Rattle.std.proofs.lemmas.List.{length-take}
use Rattle.vb_view.specs.View.{bits_of}
use Rattle.vb_group.specs.Groups.{TriesRows, selected}
use Rattle.vb_group.proofs.UndoLemmas.{no_more}
use Rattle.vb_group.proofs.ZipLemmas.{take-zip}
use Rattle.vb_group.proofs.undo.undo.Goals as goal

pub front-requires : goal.front-requires
front-requires g c =
    no_more (λ m. length (bits_of m)) c.args.rows (length c.args.codes.now) c.requires.within
    c.args.mask c.requires.mask

pub take_back-requires-clause-same_len : goal.take_back-requires-clause-same_len
take_back-requires-clause-same_len g c =
    simp length-take (omega (arith, c.requires.same_len))

pub take_back-requires-clause-mask : goal.take_back-requires-clause-mask
take_back-requires-clause-mask g c =
    let n = c.args.rows in
    let codes = c.args.codes.now in
    let long : length (take n codes) ≡ n = simp length-take (omega (arith, c.requires.within)) in
    subst (λ k. ForSome c.front.result (λ m. length (bits_of m) ≡ k)) (sym long)
    c.front.ensures.len

pub returns-clause-restored : goal.returns-clause-restored
returns-clause-restored g c = λ start added.
    let codes = c.args.codes.now in
    let values = c.args.values.now in
    let n = c.args.rows in
    let part : Option (List Bool) = option_map bits_of c.front.result in
    let tries = λ (l : List (g.row.C.Denot × g.row.V.Denot)). TriesRows g.C.BitIndex.number
    g.A.Addition.plus g.A.Addition.is_total g.A.Addition.skips start c.args.totals.now l false in
    c.take_back.ensures start false (subst tries
    (ap (λ m. selected m (take n (zip codes values))) (sym c.front.ensures.bits)
    ∙ ap (selected part) (take-zip n codes values)) added)
