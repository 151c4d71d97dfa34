-- Rules for writes to windows.
use Rattle.vb_bits.proofs.WindowLemmas.{windows}
use Rattle.vb_bits.proofs.WritesLemmas.{writes}

-- ---- for `#[tactic(auto, using(..))]`
pub ruleset edits = (windows, writes)
