pub mod Words
pub mod Table
pub mod Scan
pub mod Parts
pub mod Begin
pub mod Read
