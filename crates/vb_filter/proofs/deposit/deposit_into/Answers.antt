use Rattle.std.proofs.Common.{◌≡◌, ℕ, List, Bool, false, length, replicate, sym, ap, ◌∙◌}
use Rattle.vb_bits.specs.Bits.{bits, complement, count}
use Rattle.vb_bits.specs.Kept.{kept_by}
use Rattle.vb_bits.specs.Writes.{Writes}
use Rattle.vb_view.specs.View.{bits_of}
use Rattle.vb_filter.specs.Spread.{spread_by}
use Rattle.vb_filter.proofs.SpreadLemmas.{length-spread_by, kept_by-spread_by, others-spread_by}
use Rattle.vb_filter.proofs.deposit.deposit_into.Goals as goal

-- the new bits where the mask is true, and where it isn't
kept : (old new : List ℕ) (o : ℕ) (mask values : List Bool)
    → Writes old new o (spread_by mask values) → length values ≡ count mask
    → kept_by mask (bits new o (length mask)) ≡ values
kept old new o mask values written same =
    ap (kept_by mask) (ap (bits new o) (sym (length-spread_by mask values)) ∙ written.window)
    ∙ kept_by-spread_by mask values same

others : (old new : List ℕ) (o : ℕ) (mask values : List Bool)
    → Writes old new o (spread_by mask values)
    → kept_by (complement mask) (bits new o (length mask))
    ≡ replicate (count (complement mask)) false
others old new o mask values written =
    ap (kept_by (complement mask))
    (ap (bits new o) (sym (length-spread_by mask values)) ∙ written.window)
    ∙ others-spread_by mask values

pub returns-then-len-le64-clause-kept : goal.returns-then-len-le64-clause-kept
returns-then-len-le64-clause-kept c =
    kept c.args.out.now c.deposit_few.new.out c.args.offset (bits_of c.args.mask)
    (bits_of c.args.values) c.deposit_few.ensures c.requires.same_count

pub returns-then-len-le64-clause-others : goal.returns-then-len-le64-clause-others
returns-then-len-le64-clause-others c =
    others c.args.out.now c.deposit_few.new.out c.args.offset (bits_of c.args.mask)
    (bits_of c.args.values) c.deposit_few.ensures

pub returns-else-len-le64-clause-kept : goal.returns-else-len-le64-clause-kept
returns-else-len-le64-clause-kept c =
    kept c.args.out.now c.deposit_many.new.out c.args.offset (bits_of c.args.mask)
    (bits_of c.args.values) c.deposit_many.ensures c.requires.same_count

pub returns-else-len-le64-clause-others : goal.returns-else-len-le64-clause-others
returns-else-len-le64-clause-others c =
    others c.args.out.now c.deposit_many.new.out c.args.offset (bits_of c.args.mask)
    (bits_of c.args.values) c.deposit_many.ensures
