use Rattle.std.proofs.Common.{◌≡◌, ℕ, List, ◌+◌, ◌-◌, ◌/◌, ◌%◌, ◌^◌, ◌<◌, ◌≤◌, arith}
use Rattle.std.proofs.Common.{sym, ap, ◌∙◌, get_or}
use Rattle.std.proofs.Common.{⊎_elim}
use Rattle.std.proofs.lemmas.Bool.{cases_lt}
use Rattle.std.proofs.lemmas.List.{get_or_read, length-set}
use Rattle.vb_rank.specs.Tables.{Narrows, Rises, ProbesAtMost, count_before}
use Rattle.vb_rank.proofs.TablesLemmas.{narrows-up, narrows-down}
use Rattle.vb_rank.proofs.LanesLemmas.{some_of, each_set, halved_set, kept_set}
use Rattle.vb_rank.proofs.LanesLemmas.{halved_still}
use Rattle.vb_rank.proofs.side_by_side.halve_each.Goals as goal
use Rattle.vb_rank.proofs.side_by_side.halve_each.Goals.{then-half-gt0, else-half-gt0}

pub overflow_add-middle : goal.overflow_add-middle
overflow_add-middle g c =
    let k : ℕ = c.loop-k.k in
    let d = some_of c.args.levels.now (omega (arith, c.type_inv.levels)) in
    let f = c.loop-k.invariant.each k d c.loop-k-test.true in
    record { fits = omega (arith, f.within, c.requires.long k d c.loop-k-test.true) }

pub bits_before-here-requires-clause-fits : goal.bits_before-here-requires-clause-fits
bits_before-here-requires-clause-fits g c =
    let k : ℕ = c.loop-k.k in
    let d = c.index-levels-k.result in
    let f = c.loop-k.invariant.each k d c.loop-k-test.true in
    c.requires.fits k _ d c.loop-k-test.true (omega (arith, f.within, c.if-half-gt0.true))

pub loop-k-preserved : goal.loop-k-preserved
loop-k-preserved g c =
    let k : ℕ = c.loop-k.k in
    let v = c.loop-k.invariant in
    let a : List ℕ = c.loop-k.lanes.low in let b : List ℕ = c.loop-k.lanes.before in
    let e : List ℕ = c.loop-k.lanes.left in let o : List ℕ = c.args.lanes.now.left in
    let in8 : k < 8 = c.loop-k-test.true in
    elim c.if-half-gt0.branch [
      | then-half-gt0 w ↦
          let s = w.bits_before-here.new.source in
          let l = get_or c.args.levels.now k w.index-levels-k.result in
          let here : ℕ = w.bits_before-here.result in
          let held = w.bits_before-here.ensures.same ∙ v.same in
          let probes : (x : g.row.L.Denot) → ProbesAtMost (k + 1)
          (g.L.Level.seen x c.args.source.now) (g.L.Level.seen x s) = λ x. record {
            same = c.requires.held x s c.args.source.now held;
            probes = omega (
              arith,
              (v.probes x).probes,
              w.bits_before-here.ensures.probe.probes,
              c.requires.shared x l s,
              c.requires.shared x l c.loop-k.source,
            );
          } in
          let t : g.row.L.Denot → List ℕ =
          λ d. (g.L.Level.seen (get_or c.args.levels.now k d) c.args.source.now).entries in
          let mid : ℕ = get_or a k 0 + get_or e k 0 / 2 in
          let is : (d : g.row.L.Denot) → Rises c.args.width c.args.value (t d)
          → here ≡ count_before c.args.width c.args.value (t d) mid = λ d r.
          let level : l ≡ get_or c.args.levels.now k d = sym w.index-levels-k.is
          ∙ get_or_read c.args.levels.now k w.index-levels-k.result
          (omega (arith, c.type_inv.levels, in8)) w.index-levels-k.is d in
          let same = c.requires.held l c.loop-k.source c.args.source.now v.same
          ∙ ap (λ x. (g.L.Level.seen x c.args.source.now).entries) level in
          (rw same at w.bits_before-here.ensures.value)
          (r.small mid (omega (arith, (v.each k d in8).within, w.if-half-gt0.true))) in
          let P : g.row.L.Denot → ℕ → ℕ → ℕ → ℕ → Type 0 = λ d i j m n. Narrows c.args.width
          c.args.value
          (g.L.Level.seen (get_or c.args.levels.now i d) c.args.source.now).entries
          (get_or c.args.ns.now i 0) j m n in
          let n : ℕ = get_or c.args.ns.now k 0 in
          let x : ℕ = w.choose.result in let y : ℕ = w.choose-then-half-gt0.result in
          let next : (d : g.row.L.Denot) → P d k x y (get_or e k 0 - get_or e k 0 / 2) = λ d.
          let b0 : ℕ = get_or b k 0 in let under : b0 ≤ n = (v.each k d in8).low in
          let step : ℕ = (here + (2 ^ 64 - b0)) % 2 ^ 64 in
          let fits : here < 2 ^ 64 = w.bits_before-here.type_inv in
          let low : n < 2 ^ 64 = c.fits-ns k in
          ⊎_elim
          (λ (less : n - b0 < step).
          rw (w.choose.ensures.lower less) (rw (w.choose-then-half-gt0.ensures.lower less)
          (narrows-down c.args.width c.args.value (t d) n (get_or a k 0) b0
          (get_or e k 0) here (v.each k d in8) (omega (arith, w.if-half-gt0.true)) (is d)
          (λ up. omega (arith, less, under, up, fits)))))
          (λ (more : step ≤ n - b0).
          rw (w.choose.ensures.upper more) (rw (w.choose-then-half-gt0.ensures.upper more)
          (narrows-up c.args.width c.args.value (t d) n (get_or a k 0) b0
          (get_or e k 0) here (v.each k d in8) (omega (arith, w.if-half-gt0.true)) (is d)
          (omega (arith, more, under, fits, low)))))
          (cases_lt (n - b0) step) in
          rw w.lanes-is (rw w.source-is record {
            lows = length-set a k x ∙ v.lows;
            befores = length-set b k y ∙ v.befores;
            lefts = length-set e k _ ∙ v.lefts;
            each = λ i d h. each_set (P d) a b e k x y _ v.lows v.befores v.lefts in8
                (λ i. v.each i d) (next d) i h;
            done = halved_set e o k v.lefts in8 v.done v.left;
            left = kept_set e o k _ v.left;
            same = held;
            probes = probes;
          })
      | else-half-gt0 w ↦
          let still : get_or e k 0 / 2 ≡ 0 = omega (arith, w.if-half-gt0.false) in
          rw w.lanes-is (rw w.source-is record {
            lows = v.lows;
            befores = v.befores;
            lefts = v.lefts;
            each = v.each;
            done = halved_still e o k still v.done v.left;
            left = λ i h. v.left i (omega (arith, h));
            same = v.same;
            probes = λ x. record {
              same = (v.probes x).same;
              probes = omega (arith, (v.probes x).probes);
            };
          })
    ]
