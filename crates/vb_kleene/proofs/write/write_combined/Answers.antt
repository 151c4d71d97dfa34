use Rattle.std.proofs.Common.{◌≡◌, ℕ, ◌+◌, ◌-◌, ◌*◌, ◌%◌, Bool, List, length, take}
use Rattle.std.proofs.Common.{slice_range, subst, sym, ◌∙◌, refl, arith}
use Rattle.std.proofs.lemmas.List.{take_all}
use Rattle.vb_bits.specs.Writes.{Writes}
use Rattle.vb_kleene.specs.Combined.{column, trues_by, valid_by}
use Rattle.vb_kleene.proofs.ColumnLemmas.{length-trues_by, length-valid_by}
use Rattle.vb_kleene.proofs.PartLemmas.{Writes-part}
use Rattle.vb_kleene.proofs.write.write_combined.Goals as goal

pub loop-k-preserved : goal.loop-k-preserved
loop-k-preserved g c =
    let left = c.args.left.now in let right = c.args.right.now in
    let f = g.T.Merge.bit in let h = g.F.Merge.bit in
    let at = 64 * c.loop-k.k in let end = 64 * (c.loop-k.k + 1) in
    let trues = trues_by f (column left) (column right) in
    let valid = valid_by f h (column left) (column right) in
    let t = c.args.t in let v = c.args.v in let same = c.requires.right in
    let n = c.len-len.ensures in
    record {
      trues = Writes-part c.args.trues.now c.loop-k.trues c.write_part.new.trues t
          (t + at) at 64 end trues (omega (arith, length-trues_by left right same f)) refl
          (omega arith)
          c.loop-k.invariant.trues c.write_part.ensures.trues;
      valid = Writes-part c.args.valid.now c.loop-k.valid c.write_part.new.valid v
          (v + at) at 64 end valid (omega (arith, length-valid_by left right same f h)) refl
          (omega arith)
          c.loop-k.invariant.valid c.write_part.ensures.valid;
    }

-- the last ones, fewer than a word
module _ (b c d : List ℕ) (o k n r : ℕ) (l : List Bool) (long : length l ≡ n) where
  with_rest : n ≡ 64 * k + r → Writes b c o (take (64 * k) l)
      → Writes c d (o + (n - r)) (slice_range l (n - r) (n - r + r)) → Writes b d o l
  with_rest e one two =
      let at : n - r ≡ 64 * k = omega arith in
      subst (Writes b d o) (take_all n l (omega arith))
      (Writes-part b c d o (o + (n - r)) (n - r) r n l (omega arith) refl (omega arith)
      (subst (λ m. Writes b c o (take m l)) (sym at) one) two)

  no_rest : n ≡ 64 * k → Writes b c o (take (64 * k) l) → Writes b c o l
  no_rest e one = subst (Writes b c o) (take_all (64 * k) l (omega arith)) one

pub returns-then-rest-ne0-clause-trues : goal.returns-then-rest-ne0-clause-trues
returns-then-rest-ne0-clause-trues g c =
    let left = c.args.left.now in let right = c.args.right.now in let f = g.T.Merge.bit in
    let n = c.len-len.result in let len = c.len-len.ensures in
    with_rest c.args.trues.now c.loop-k.trues c.write_part-then-rest-ne0.new.trues c.args.t
    c.loop-k.k n (n % 64) (trues_by f (column left) (column right))
    (length-trues_by left right c.requires.right f ∙ sym len) (omega arith) c.loop-k.invariant.trues
    c.write_part-then-rest-ne0.ensures.trues

pub returns-then-rest-ne0-clause-valid : goal.returns-then-rest-ne0-clause-valid
returns-then-rest-ne0-clause-valid g c =
    let left = c.args.left.now in let right = c.args.right.now in
    let f = g.T.Merge.bit in let h = g.F.Merge.bit in
    let n = c.len-len.result in let len = c.len-len.ensures in
    with_rest c.args.valid.now c.loop-k.valid c.write_part-then-rest-ne0.new.valid c.args.v
    c.loop-k.k n (n % 64) (valid_by f h (column left) (column right))
    (length-valid_by left right c.requires.right f h ∙ sym len) (omega arith)
    c.loop-k.invariant.valid c.write_part-then-rest-ne0.ensures.valid

pub returns-else-rest-ne0-clause-trues : goal.returns-else-rest-ne0-clause-trues
returns-else-rest-ne0-clause-trues g c =
    let left = c.args.left.now in let right = c.args.right.now in let f = g.T.Merge.bit in
    let n = c.len-len.result in let len = c.len-len.ensures in
    no_rest c.args.trues.now c.loop-k.trues c.loop-k.trues c.args.t c.loop-k.k n 0
    (trues_by f (column left) (column right))
    (length-trues_by left right c.requires.right f ∙ sym len)
    (omega arith) c.loop-k.invariant.trues

pub returns-else-rest-ne0-clause-valid : goal.returns-else-rest-ne0-clause-valid
returns-else-rest-ne0-clause-valid g c =
    let left = c.args.left.now in let right = c.args.right.now in
    let f = g.T.Merge.bit in let h = g.F.Merge.bit in
    let n = c.len-len.result in let len = c.len-len.ensures in
    no_rest c.args.valid.now c.loop-k.valid c.loop-k.valid c.args.v c.loop-k.k n 0
    (valid_by f h (column left) (column right))
    (length-valid_by left right c.requires.right f h ∙ sym len) (omega arith)
    c.loop-k.invariant.valid
