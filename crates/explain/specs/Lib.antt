-- What the code of the two methods is held to, in the order to read it in:
-- Asking, the question of a table and an order; Ranking, the same of an order over an accepted table; Flags, runs of flags;
-- Parts, what working a part must give; Methods, the four methods by name and what their answers are.
pub mod Asking
pub mod Ranking
pub mod Flags
pub mod Parts
pub mod Methods
