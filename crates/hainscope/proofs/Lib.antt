-- The code's own proofs, and what they rest on: Spreading, the bits of a selection spread over a list; Writing, the order loaded and the report
-- written; Told, that what a call hands back keeps its promise. The demands, and that every call has one outcome, are proved in the crate `promises`.
pub mod Spreading
pub mod Writing
pub mod Told
