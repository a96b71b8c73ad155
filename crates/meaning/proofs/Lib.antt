-- The laws of what a table means, bottom up. For those above: Standing, what `stands` says; RepeatedLiteral, that one changes nothing; Choices, how
-- the answers to different selections hang together; HalfMade, one variable more decided; States and Pruning, why the state of a row loses no
-- setting; OneRow, what an accepted table tells about a row. For the code: Clauses and Sums, the loops over a row's literals and terms.
pub mod Tested
pub mod Differences
pub mod States
pub mod Clauses
pub mod Sums
pub mod OneRow
pub mod Standing
pub mod RepeatedLiteral
pub mod Choices
pub mod HalfMade
pub mod Pruning
pub mod Examples
