-- what good bytes are
pub mod Head
pub mod Key
pub mod Verdict
-- the fields of good bytes
pub mod Cells
pub mod Run
-- what the code's places, words and tests stand for
pub mod Places
pub mod Words
pub mod If
