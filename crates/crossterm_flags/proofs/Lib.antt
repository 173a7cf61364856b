pub mod NameFacts
pub mod Ranks
pub mod TableFacts
pub mod ValueLaws
