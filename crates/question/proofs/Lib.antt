-- The laws of the question, bottom up: Rearranging, what holds at places wherever they stand; Walking, the walk over a table's rows, and
-- Noting, which of their places it notes; OpenRows, the list of these places, sorted in place; Seeing, each way out of a look; Decisions
-- and Branches, the trail and what is still to be tried; Searching and Turns, each turn of the search; Answering, why what it finds answers
-- the question.
pub mod Rearranging
pub mod Walking
pub mod Noting
pub mod OpenRows
pub mod Seeing
pub mod Decisions
pub mod Branches
pub mod Searching
pub mod Turns
pub mod Answering
