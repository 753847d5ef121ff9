-- Definitions that only contracts inside the library cite: no public promise rests on these.
pub mod Walk
