-- Written by tools/write-lists from tools/families/groups.txt.
use Rattle.std.proofs.Common.{◌≤◌, ℕ, Bool, false, true, List, Option, length, take, refl, subst}
use Rattle.std.proofs.Common.{Some}
use Rattle.std.specs.List.{zip}
use Rattle.std.specs.Option.{option_map}
use Rattle.std.specs.Prelude.{IfSome, IfNone}
use Rattle.vb_view.specs.View.{bits_of}
use Rattle.vb_group.specs.Groups.{TriesRows, selected, HaveGroups, IsFirstPast}
use Rattle.vb_group.proofs.ChecksLemmas.{rows_have, front_have}
use Rattle.vb_group.proofs.undo.add_few_or_undo.Goals as goal

pub undo-requires-clause-within : goal.undo-requires-clause-within
undo-requires-clause-within g c =
    subst (λ o. IfSome o (λ k. k ≤ length c.args.codes.now)) c.in-Some.is
    c.add_few.ensures.within

pub undo-requires-clause-past : goal.undo-requires-clause-past
undo-requires-clause-past g c = λ have.
    let number = g.C.BitIndex.number in
    let start = c.args.totals.now in
    let codes = c.args.codes.now in
    let rows = zip codes c.args.values.now in
    let mask : Option (List Bool) = Some (bits_of c.args.mask) in
    let added = λ (k : ℕ). TriesRows number g.A.Addition.plus g.A.Addition.is_total
    g.A.Addition.skips start c.add_few.new.totals
    (selected (option_map (take k) mask) (take k rows)) false in
    let tries : added c.in-Some.rows =
    subst (λ o. IfSome o added) c.in-Some.is c.add_few.ensures.front in
    tries.past refl
    (front_have number (length start) c.in-Some.rows codes c.args.values.now mask
    (subst (λ n. HaveGroups number n codes mask (length codes)) tries.adds.same_len have))

pub returns-in-Some-clause-past : goal.returns-in-Some-clause-past
returns-in-Some-clause-past g c =
    let number = g.C.BitIndex.number in
    let start = c.args.totals.now in
    let codes = c.args.codes.now in
    let mask : Option (List Bool) = Some (bits_of c.args.mask) in
    let added = λ (k : ℕ). TriesRows number g.A.Addition.plus g.A.Addition.is_total
    g.A.Addition.skips start c.add_few.new.totals
    (selected (option_map (take k) mask) (take k (zip codes c.args.values.now))) false in
    let tries : added c.in-Some.rows =
    subst (λ o. IfSome o added) c.in-Some.is c.add_few.ensures.front in
    subst (λ n. IsFirstPast number n codes mask c.undo.result) tries.adds.same_len
    c.undo.ensures.past

pub returns-in-Some-clause-unchanged : goal.returns-in-Some-clause-unchanged
returns-in-Some-clause-unchanged g c =
    let start = c.args.totals.now in
    let mask : Option (List Bool) = Some (bits_of c.args.mask) in
    c.undo.ensures.restored start (subst (λ o. IfSome o (λ k. TriesRows g.C.BitIndex.number
    g.A.Addition.plus g.A.Addition.is_total g.A.Addition.skips start c.add_few.new.totals
    (selected (option_map (take k) mask) (take k (zip c.args.codes.now c.args.values.now)))
    false)) c.in-Some.is c.add_few.ensures.front)

pub returns-in-None-clause-added : goal.returns-in-None-clause-added
returns-in-None-clause-added g c =
    let all = TriesRows g.C.BitIndex.number g.A.Addition.plus g.A.Addition.is_total
    g.A.Addition.skips c.args.totals.now c.add_few.new.totals
    (selected (Some (bits_of c.args.mask)) (zip c.args.codes.now c.args.values.now)) true in
    let tries : all = subst (λ o. IfNone o all) c.in-None.is c.add_few.ensures.all in
    tries.adds

pub returns-in-None-clause-groups : goal.returns-in-None-clause-groups
returns-in-None-clause-groups g c =
    let all = TriesRows g.C.BitIndex.number g.A.Addition.plus g.A.Addition.is_total
    g.A.Addition.skips c.args.totals.now c.add_few.new.totals
    (selected (Some (bits_of c.args.mask)) (zip c.args.codes.now c.args.values.now)) true in
    let tries : all = subst (λ o. IfNone o all) c.in-None.is c.add_few.ensures.all in
    rows_have g.C.BitIndex.number (length c.args.totals.now) c.args.codes.now c.args.values.now
    (Some (bits_of c.args.mask)) c.requires.same_len (tries.groups refl c.requires.stops)
