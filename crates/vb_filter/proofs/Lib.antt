mod DepositLemmas
mod ElementsLemmas
mod FieldsLemmas
mod FilteredBits
mod FourLanes
mod FrontLemmas
pub mod GatherLemmas
mod PackedDigits
pub mod PendingLemmas
mod PackedOnes
mod PackedSteps
mod RetainLemmas
mod RunsLemmas
mod SpreadDigits
pub mod SpreadLemmas
