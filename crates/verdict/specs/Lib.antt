-- the field of an origin, judged by its words
pub mod Origins
-- how far a check has come
pub mod Progress
