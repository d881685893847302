pub mod EvaluationLemmas
pub mod ExpressionLemmas
pub mod PairLemmas
pub mod ConfluenceLemmas
pub mod KeepingLemmas
pub mod StandingLemmas
