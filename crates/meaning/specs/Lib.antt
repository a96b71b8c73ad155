-- What a reader must believe of what a table means, in the order to read it in:
-- Meaning, what a setting is and when it meets a row; Stands, when a selection can stand.
-- The others are the search's, and its proofs show that they lose nothing: HalfMade, settings of which some variables are not decided;
-- States, what such a setting tells about a row; WholeRows, what the code must know of a row that it reads.
pub mod Meaning
pub mod Stands
pub mod HalfMade
pub mod States
pub mod WholeRows
