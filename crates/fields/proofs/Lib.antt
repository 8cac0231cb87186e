pub mod BlockSets
