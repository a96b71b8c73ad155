-- What is proved of the definitions in specs/. Another crate cites a theorem as Rattle.preference.proofs.FILE.{NAME}.
-- The theorems, over the whole calls; to know what is proved, read their statements:
--   Orders        a preferred set is unique, and it is minimal or maximal
--   Start         what a status says, and each way out of the shared start
--   Conflicts     both methods give the preferred conflict; their counts; they ask about nothing else
--   Relaxations   the same of a relaxation
--   Counts        each count is the number of questions that the method asks
--   Link          Proposition 4, which links the two
--   Depths        the list of 65 entries keeps its rule, and d above it
--   Answers       the rows of the sample sheet and Example 2, computed
--   Turns         for code that carries the methods out: one law for each way out of a function
--   Few           for the same code: its sums stay small
-- What they rest on:
--   Selections    laws of all, none and subsets
--   Trees         laws of cutting
--   Lengths       every set is a selection of all the requests
--   Found         what a part of the halving methods finds
--   Preferred     one by one finds the preferred set
--   SameSet       halving finds the one-by-one set, for a question that is monotone on all lists
--   Questions     the methods ask about selections of the n requests and nothing else
--   EveryCut      halving finds the one-by-one set, for a question that is monotone on the n requests
--   Bound         how many questions a part asks
--   CarriedOut    each part and the shared start, carried out by a program that can do nothing but ask
pub mod Selections
pub mod Orders
pub mod Trees
pub mod Start
pub mod Lengths
pub mod Found
pub mod Preferred
pub mod SameSet
pub mod Questions
pub mod EveryCut
pub mod Bound
pub mod Depths
pub mod Answers
pub mod Conflicts
pub mod Relaxations
pub mod Link
pub mod Turns
pub mod Few
pub mod CarriedOut
pub mod Counts
