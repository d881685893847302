pub mod ExpressionLemmas
pub mod Named
pub mod OutcomeLemmas
