use Rattle.std.proofs.Common.{rules, inl, inr, ◌≡◌, ◌∙◌, ap, replicate, false}
use Rattle.std.proofs.lemmas.Iterator.{YieldsList-from_slice}
use Rattle.std.proofs.lemmas.Iterator.Consumers.{YieldsList-at, YieldsList-from_copied}
use Rattle.vb_set.specs.declared.BufferError.TheVariants.{OutOfMemory}
use Rattle.vb_set.proofs.IndicesLemmas.{items_are, none_past}
use Rattle.vb_bits.specs.Marks.{with_true}
use Rattle.vb_pool.proofs.Takes.{below_all}
use Rattle.vb_pool.proofs.open_bits.OpenBits.from_indices.Goals as goal

pub returns-in_err-from_indices : goal.returns-in_err-from_indices
returns-in_err-from_indices g c =
    let memory : c.in_err-from_indices.field-0.0 ≡ OutOfMemory =
    elim c.in_err-from_indices.ensures.refused [
      | inl memory ↦ memory
      | inr (s, index, begins, is, first) ↦
          let road = YieldsList-at begins (YieldsList-from_copied
          (YieldsList-from_slice c.args.places.now cc)) in
          absurd (none_past road c.args.n index (below_all c.args.n c.args.places.now c.requires)
          first)
    ] in
    search rules

pub returns : goal.returns
returns g c =
    let (s, items, begins, drains, (below, made)) = c.in_ok-from_indices.ensures.bits in
    let road = YieldsList-at begins (YieldsList-from_copied
    (YieldsList-from_slice c.args.places.now cc)) in
    record {
      ok = c.new.ensures ∙ made
          ∙ ap (with_true (replicate c.args.n false)) (items_are road items drains);
      refused = search rules;
    }
