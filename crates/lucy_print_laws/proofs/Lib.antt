pub mod Proper
pub mod Again
pub mod MovedWords
pub mod MovedConditions
pub mod MovedPlans
pub mod Places
pub mod ReadAgain
