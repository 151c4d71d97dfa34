use Rattle.std.proofs.Common.{◌≡◌, ℕ, zero, suc, List, [], ◌∷◌, ◌-◌, ◌*◌, ◌<◌, min, length, refl}
use Rattle.std.proofs.Common.{sym, ap, ◌∙◌, arith, get_or}
use Rattle.std.specs.Int.{div_ceil}
use Rattle.vb_rank.proofs.TablesLemmas.{digits-of_group-le}
use Rattle.vb_rank.specs.Tables.{BeginsBefore, Rises}
use Rattle.vb_directory.specs.Counts.{counts_before, counts_within}
use Rattle.vb_directory.specs.declared.probe_groups.Withins.{Withins}
use Rattle.vb_directory.proofs.CountsLemmas.{BeginsBefore-group, length_counts_before}
use Rattle.vb_directory.proofs.CountsLemmas.{length_counts_within}
use Rattle.vb_directory.proofs.select_each.find_each_in_groups.Goals as goal

-- an item of a list of eight equal ones
same_at : (x k : ℕ) → k < 8 → get_or (x ∷ x ∷ x ∷ x ∷ x ∷ x ∷ x ∷ x ∷ []) k 0 ≡ x
same_at x zero h = refl
same_at x (suc zero) h = refl
same_at x (suc (suc zero)) h = refl
same_at x (suc (suc (suc zero))) h = refl
same_at x (suc (suc (suc (suc zero)))) h = refl
same_at x (suc (suc (suc (suc (suc zero))))) h = refl
same_at x (suc (suc (suc (suc (suc (suc zero)))))) h = refl
same_at x (suc (suc (suc (suc (suc (suc (suc zero))))))) h = refl
same_at x (suc (suc (suc (suc (suc (suc (suc (suc k)))))))) h = absurd (omega arith)

pub find_blocks-requires : goal.find_blocks-requires
find_blocks-requires g c =
    let e : List ℕ = (g.S.ProbeGroups.seen c.args.groups.now).entries in
    let size : ℕ = c.div_ceil-size.result in
    let long = length_counts_before e c.args.len c.requires.size in (
      omega arith,
      (
        λ k d h. same_at size k h ∙ c.div_ceil-size.ensures ∙ sym long,
        (
          λ k h. omega (arith, same_at size k h, c.div_ceil-size.ensures, c.requires.some),
          (
            λ k h. omega (arith, same_at size k h),
            (
              λ j h. omega (arith, h, c.div_ceil-size.ensures, c.ranges.len.fits),
              (λ l s t same. ap counts_before same, λ l m s. refl),
            ),
          ),
        ),
      ),
    )

-- the groups that are found are groups of the bits
inside : (len size x : ℕ) → size ≡ div_ceil len 65536 → (k : ℕ) → k < 8
    → x < get_or (size ∷ size ∷ size ∷ size ∷ size ∷ size ∷ size ∷ size ∷ []) k 0
    → 65536 * x < len
inside len size x cut k h within = omega (arith, cut, within, same_at size k h)

pub find_blocks-requires-2 : goal.find_blocks-requires-2
find_blocks-requires-2 g c =
    let e : List ℕ = (g.S.ProbeGroups.seen c.args.groups.now).entries in
    let n : ℕ = c.args.len in
    let in_len : (k : ℕ) → k < 8 → 65536 * get_or c.find_blocks.result.0 k 0 < n = λ k h.
    inside n c.div_ceil-size.result (get_or c.find_blocks.result.0 k 0)
    c.div_ceil-size.ensures k h (c.find_blocks.ensures.within k h) in (
      omega arith,
      (
        λ k d h.
            let w : Withins = get_or c.inside_groups.result.0 k d in
            let is = c.inside_groups.ensures.levels k d h in
            let part = c.inside_groups.ensures.parts k d h in
            let long : length (counts_within e w.group w.blocks) ≡ w.blocks =
            length_counts_within e n w.group w.blocks c.requires.size
            (omega (arith, is, in_len k h))
            (part ∙ c.inside_groups.ensures.sizes k h
            ∙ ap (λ x. min (div_ceil (n - 65536 * x) 512) 128) (sym is)) in
            sym (ap (λ x. length (counts_within x w.group w.blocks)) c.find_blocks.ensures.same
            ∙ long ∙ part),
        (
          λ k h. omega (arith, c.inside_groups.ensures.sizes k h, in_len k h),
          (
            λ k h. omega (
              arith,
              c.inside_groups.ensures.sizes k h,
              c.min-most.ensures,
              c.div_ceil.ensures,
            ),
            (
              λ j h. omega (arith, h, c.min-most.ensures),
              (λ l s t same. ap (λ x. counts_within x l.group l.blocks) same, λ l m s. refl),
            ),
          ),
        ),
      ),
    )

pub returns-clause-block : goal.returns-clause-block
returns-clause-block g c = λ l size p up down k h.
    let e : List ℕ = (g.S.ProbeGroups.seen c.args.groups.now).entries in
    let d : Withins = record { group = 0; blocks = 0 } in
    let w : Withins = get_or c.inside_groups.result.0 k d in
    let n : ℕ = get_or c.args.ns.now k 0 in
    let group : ℕ = get_or c.find_blocks.result.0 k 0 in
    let before : ℕ = get_or c.find_blocks.result.1 k 0 in
    let block : ℕ = get_or c.find_blocks-2.result.0 k 0 in
    let more : ℕ = get_or c.find_blocks-2.result.1 k 0 in
    let find : Rises 512 c.args.value (counts_within e w.group w.blocks)
    → BeginsBefore 512 c.args.value (counts_within e w.group w.blocks) (n - before) block more =
    let rest = c.inside_groups.ensures.rest k h in let same = c.find_blocks.ensures.same in
    let found = c.find_blocks-2.ensures.block k d h in
    rw rest at (rw same at found) in
    rw (c.among_all.ensures.blocks k h) (rw (c.among_all.ensures.befores k h)
    (BeginsBefore-group c.args.value l e (counts_within e w.group w.blocks) n group before
    w.blocks block more p up down (c.find_blocks.ensures.block k (record {}) h)
    (ap (λ x. counts_within e x w.blocks) (c.inside_groups.ensures.levels k d h))
    (c.inside_groups.ensures.parts k d h ∙ c.inside_groups.ensures.sizes k h
    ∙ ap (λ x. min (div_ceil (x - 65536 * group) 512) 128) (sym size)) find))

pub returns-clause-probes : goal.returns-clause-probes
returns-clause-probes g c =
    let d : Withins = record { group = 0; blocks = 0 } in
    record {
      same = c.find_blocks-2.ensures.same ∙ c.find_blocks.ensures.same;
      probes = omega (
        arith,
        (c.find_blocks.ensures.probes (record {})).probes,
        (c.find_blocks-2.ensures.probes d).probes,
        digits-of_group-le c.args.len c.div_ceil-size.result c.min-most.result
            c.div_ceil-size.ensures (omega (arith, c.min-most.ensures, c.div_ceil.ensures))
            (omega (arith, c.min-most.ensures)),
      );
    }
