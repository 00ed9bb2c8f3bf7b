pub mod Spellings
pub mod Reading
pub mod VerdictEnds
pub mod Holding
