-- What a reader of the question must believe is said in the crate `meaning` (Meaning, Stands); here are, in the order to read it in:
-- MayAsk, what a caller of the question must know; RowPlaces, the places of a table's rows; Counting, of those the rows that count.
-- The others are the search's own, and its proofs show that they lose nothing: Completing, what the search finds out about a half-made
-- setting; Narrowing, which rows such a setting leaves open; Looking, what that tells of it; Trail, the decisions that are to be taken back.
pub mod MayAsk
pub mod RowPlaces
pub mod Counting
pub mod Completing
pub mod Narrowing
pub mod Looking
pub mod Trail
