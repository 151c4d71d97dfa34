use Rattle.std.proofs.Common.{rules, false, suc, ◌≡◌, ◌+◌, List, Bool, [], ◌∷◌, ◌++◌, take}
use Rattle.std.proofs.Common.{get_or, sym, ap, ◌∙◌, subst, arith}
use Rattle.std.proofs.Math.Seq.{take-suc}
use Rattle.std.proofs.lemmas.List.{take_all}
use Rattle.vb_set.specs.Appender.{HasAdded}
use Rattle.vb_set.specs.OpenSet.{AddsBits}
use Rattle.vb_set_tests.proofs.callers.append_each.Goals as goal

-- those before the error are in the set
pub returns-in_err-append-clause-err : goal.returns-in_err-append-clause-err
returns-in_err-append-clause-err g c =
    let before : List Bool = take c.loop-bit.bit-index c.args.bools.now in
    let kept = c.in_err-append.ensures.err c.args.set.now before c.loop-bit.invariant.added in
    search (rules, c.drop-appender.ensures.adds c.args.set.now before kept)

pub loop-bit-preserved : goal.loop-bit-preserved
loop-bit-preserved g c =
    let inv = c.loop-bit.invariant in
    let i = c.loop-bit.bit-index in
    let l : List Bool = c.args.bools.now in
    let next : suc i ≡ i + 1 = omega arith in
    let longer : take i l ++ get_or l i false ∷ [] ≡ take (i + 1) l =
    sym (take-suc l i false (omega arith)) ∙ ap (λ n. take n l) next in
    record {
      same = c.append.ensures.same_reference ∙ inv.same;
      added = subst (λ xs. HasAdded c.args.set.now xs c.append.new.self) longer
          (c.in_ok-append.ensures.ok c.args.set.now (take i l) inv.added);
    }

pub returns-clause-ok : goal.returns-clause-ok
returns-clause-ok g c =
    let l : List Bool = c.args.bools.now in
    let i = c.loop-bit.bit-index in
    let whole : take i l ≡ l = take_all i l (omega arith) in
    search (
      rules,
      subst (λ xs. AddsBits xs c.args.set.now c.drop-appender-2.new.self.0) whole
          (c.drop-appender-2.ensures.adds c.args.set.now (take i l) c.loop-bit.invariant.added),
    )
