pub mod Bytes
pub mod Undone
pub mod WordsRead
