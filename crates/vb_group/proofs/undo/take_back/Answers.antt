use Rattle.std.proofs.Common.{ℕ, Bool, List, Option, take}
use Rattle.std.specs.List.{zip}
use Rattle.std.specs.Option.{option_map}
use Rattle.vb_view.specs.View.{bits_of}
use Rattle.vb_group.specs.Groups.{selected}
use Rattle.vb_group.proofs.UndoLemmas.{restores, all_taken}
use Rattle.vb_group.proofs.undo.take_back.Goals as goal

pub returns : goal.returns
returns g c = λ start good added.
    let number = g.C.BitIndex.number in
    let minus = g.A.Reversible.minus in
    let is_total = g.A.Addition.is_total in
    let mid = c.args.totals.now in
    let new = c.add_selected.new.totals in
    let mask : Option (List Bool) = option_map bits_of c.args.mask in
    let all = zip c.args.codes.now c.args.values.now in
    let rows = selected mask all in
    restores g.A.Addition.plus minus is_total g.met.A.Reversible.undoes
    g.met.A.Reversible.commutes number
    g.A.Addition.skips good start mid new rows added
    (all_taken minus is_total number mid new rows
    (λ (n : ℕ). selected (option_map (take n) mask) (take n all)) c.add_selected.result
    c.add_selected.ensures.all c.add_selected.ensures.front)
