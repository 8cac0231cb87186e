pub mod RequestWords
