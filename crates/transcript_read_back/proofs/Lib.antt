pub mod CallByCall
pub mod MakesQueries
pub mod Steps
