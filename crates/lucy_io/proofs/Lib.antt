pub mod ArgumentLemmas
pub mod DecimalTexts
pub mod FrontLemmas
pub mod Journals
pub mod Pieces
pub mod Reading
