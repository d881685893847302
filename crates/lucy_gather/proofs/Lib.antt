pub mod Lookups
pub mod RaisingLemmas
pub mod RangeLemmas
pub mod ConditionLemmas
