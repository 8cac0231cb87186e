pub mod CheckParts
