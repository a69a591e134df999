pub mod Counted
pub mod Judgements
pub mod OneVerdict
pub mod Owed
pub mod Firsts
pub mod Gathered
